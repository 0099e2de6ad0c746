use Rattle.std.proofs.Common.{◌≢◌, All, take}
use Rattle.hdl_proxy.proofs.xml.cut_at.Given as goal

abbrev pub invariant-loop-count : goal.invariant-loop-count
invariant-loop-count l = All (λ byte. byte ≢ l.end) (take l.count l.text)
