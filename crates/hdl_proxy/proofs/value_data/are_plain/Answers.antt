use Rattle.std.proofs.Common.{rules, tests}
use Rattle.std.proofs.lemmas.Iterator.{YieldsList-from_slice}
use Rattle.std.proofs.lemmas.Iterator.Search.{all_from_yields_List}
use Rattle.hdl_proxy.specs.Pages.{is_plain_octet}
use Rattle.hdl_proxy.proofs.value_data.are_plain.Goals as goal

pub returns : goal.returns
returns c = all_from_yields_List is_plain_octet _ _ c.all.result c.all.ensures.ran (YieldsList-from_slice c.args.octets.now cc) (λ x b q k. search (rules, tests))
