use Rattle.std.proofs.Common.{◌≡◌, All, rules, subst, sym}
use Rattle.std.specs.String.{string_bytes}
use Rattle.percent_encoding.specs.Percent.{percent_encode}
use Rattle.hdl_proxy.specs.Url.{IsGraphic}
use Rattle.hdl_proxy.specs.declared.url.TheConstants.{IN_LOCATION}
use Rattle.hdl_proxy.proofs.Addresses.{graphic, location_covers}
use Rattle.hdl_proxy.proofs.url.address.Goals as goal

pub returns-clause-graphic : goal.returns-clause-graphic
returns-clause-graphic c =
    let spelt : string_bytes c.append_to.new.out ≡ percent_encode IN_LOCATION c.args.url.now = search rules in
    subst (All IsGraphic) (sym spelt) (graphic IN_LOCATION location_covers c.args.url.now)
