use Rattle.std.proofs.Common.{◌≡◌, ◌∷◌, All, rules, arith, subst, sym}
use Rattle.std.proofs.lemmas.List.Elements.{All-cons}
use Rattle.std.specs.String.{string_bytes}
use Rattle.percent_encoding.specs.Percent.{percent_encode}
use Rattle.hdl_proxy.specs.Url.{IsGraphic}
use Rattle.hdl_proxy.specs.declared.url.TheConstants.{IN_PATH}
use Rattle.hdl_proxy.proofs.Addresses.{graphic, path_covers}
use Rattle.hdl_proxy.proofs.url.path_of.Goals as goal

pub returns-clause-graphic : goal.returns-clause-graphic
returns-clause-graphic c =
    let spelt : string_bytes c.append_to.new.out ≡ 47 ∷ percent_encode IN_PATH c.args.name.now = search rules in
    subst (All IsGraphic) (sym spelt) (All-cons IsGraphic 47 _ (omega arith, omega arith) (graphic IN_PATH path_covers c.args.name.now))
