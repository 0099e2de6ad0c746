use Rattle.std.proofs.Common.{◌≡◌, true}
use Rattle.std.proofs.lemmas.List.Elements.{All-more}
use Rattle.hdl_proxy.specs.Xml.{is_blank}
use Rattle.hdl_proxy.proofs.xml.count_blank.Goals as goal

pub loop-count-preserved : goal.loop-count-preserved
loop-count-preserved c = All-more (λ byte. is_blank byte ≡ true) c.args.text.now c.loop-count.count 0 c.loop-count-test.true c.loop-count.invariant cc
