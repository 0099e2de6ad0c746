use Rattle.std.proofs.Common.{◌≡◌, drop}
use Rattle.hdl_proxy.specs.Query.{texts_of}
use Rattle.hdl_forms.specs.Draft.{first_named}
use Rattle.hdl_forms.proofs.draft.first_named.Given as goal

abbrev pub invariant-loop-pair : goal.invariant-loop-pair
invariant-loop-pair l = first_named l.name (texts_of (drop l.pair-index l.pairs)) ≡ first_named l.name (texts_of l.pairs)
