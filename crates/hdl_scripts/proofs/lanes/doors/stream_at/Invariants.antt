use Rattle.hdl_scripts.proofs.lanes.doors.stream_at.Given as goal

abbrev pub ghosts-run_stream : goal.ghosts-run_stream
ghosts-run_stream g a = record { ends = a.pair.ends.items }
