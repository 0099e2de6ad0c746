use Rattle.std.proofs.Common.{ℕ, length, ◌<◌, IsTrue}
use Rattle.std.proofs.lemmas.List.Elements.{All-weaker}
use Rattle.hdl_name.specs.Name.{prefix}
use Rattle.hdl_tenants.specs.Register.{Row, IsOpening, hosts}
use Rattle.hdl_tenants.proofs.Distinct.{host_of}
use Rattle.hdl_tenants.proofs.laws.opening_is_hosted.Goals as goal

pub returns : goal.returns
returns c = λ r is.
    All-weaker (IsOpening r.hostings) (λ (row : Row). (place : ℕ) × (place < length r.publishers) × IsTrue (hosts r place (prefix row.0))) (λ row sound. host_of r.publishers r.hostings (prefix row.0) is.hostings sound.hosted) r.opening is.opening
