use Rattle.std.proofs.Common.{◌≢◌, List, ℕ, refl}
use Rattle.std.proofs.lemmas.List.Elements.{All-contains, All-map, All-weaker}
use Rattle.hdl_tenants.specs.Register.{Hosting, IsHosting, prefixes_of, root}
use Rattle.hdl_tenants.proofs.Distinct.{hosts-absent}
use Rattle.hdl_tenants.proofs.laws.root_is_nobodys.Goals as goal

pub returns : goal.returns
returns c = λ r is place.
    let others = All-map (λ (p : List ℕ). p ≢ root) (λ (h : Hosting). h.prefix) r.hostings (All-weaker (IsHosting r.publishers) (λ (h : Hosting). h.prefix ≢ root) (λ h sound. sound.sound.no_root) r.hostings is.hostings) in
    hosts-absent place root r.hostings (λ there. All-contains (λ (p : List ℕ). p ≢ root) (prefixes_of r.hostings) root others there refl)
