use Rattle.std.proofs.Common.{◌==◌, sym, ap, ◌∙◌}
use Rattle.std.specs.Prelude.{find}
use Rattle.std.specs.Option.{option_map}
use Rattle.hdl_tenants.specs.declared.sites.KeptSite.{KeptSite}
use Rattle.hdl_tenants.proofs.Informed.{kept_listed}
use Rattle.hdl_tenants.proofs.sites.Sites.of.Goals as goal

pub returns-in_err-site : goal.returns-in_err-site
returns-in_err-site c =
    let found = c.in_err-site.ensures ∙ ap (find (λ (s : KeptSite). s.publisher == c.args.publisher)) c.deref.ensures.value in
    rw (c.from_residual.ensures, ← c.self.view_is) (kept_listed c.self.inside.kept.items c.args.publisher ∙ ap (option_map (λ (s : KeptSite). s.octets.items)) (sym found))

pub returns : goal.returns
returns c =
    let found = c.in_ok-site.ensures ∙ ap (find (λ (s : KeptSite). s.publisher == c.args.publisher)) c.deref.ensures.value in
    rw (c.deref-2.ensures.value, ← c.self.view_is) (kept_listed c.self.inside.kept.items c.args.publisher ∙ ap (option_map (λ (s : KeptSite). s.octets.items)) (sym found))
