use Rattle.hdl_sqlrows.proofs.layout.make_within.Goals as goal

pub make_entries-requires-clause-made : goal.make_entries-requires-clause-made
make_entries-requires-clause-made g c clean up = (c.in_ok-make_handles.ensures.made clean).2

pub make_entries-requires-clause-empty : goal.make_entries-requires-clause-empty
make_entries-requires-clause-empty g c clean up = (c.in_ok-make_handles.ensures.made clean).3

pub make_opened-requires-clause-made : goal.make_opened-requires-clause-made
make_opened-requires-clause-made g c clean up = (c.in_ok-make_entries.ensures.made clean).2

pub make_opened-requires-clause-no_handle : goal.make_opened-requires-clause-no_handle
make_opened-requires-clause-no_handle g c clean up = (c.in_ok-make_entries.ensures.made clean).3

pub make_opened-requires-clause-no_entry : goal.make_opened-requires-clause-no_entry
make_opened-requires-clause-no_entry g c clean up = (c.in_ok-make_entries.ensures.made clean).4
