use Rattle.std.proofs.Common.{refl}
use Rattle.std.specs.Str.{bytes_eq}
use Rattle.std.specs.String.{string_bytes}
use Rattle.std.specs.Map.{keys_of}
use Rattle.hdl_tenants.specs.Record.{publisher_in}
use Rattle.hdl_tenants.proofs.Maps.{found-Contains, absent-Contains, place-is, place_some, when_some, when_none}
use Rattle.hdl_tenants.proofs.publishers.Publishers.place.Goals as goal

pub returns-clause-place : goal.returns-clause-place
returns-clause-place c = rw (← c.self.view_is) (place_some (λ k. bytes_eq c.args.name.now (string_bytes k)) (keys_of c.self.inside.by_name.entries) c.get_index_of.result _ c.get_index_of.ensures.index (place-is _ publisher_in (λ p. p.name) c.args.name.now (λ e. refl) c.self.inside.by_name.entries))

pub returns-clause-there : goal.returns-clause-there
returns-clause-there c = rw (← c.self.view_is) (when_some _ _ _ c.get_index_of.ensures.found (found-Contains _ publisher_in (λ p. p.name) c.args.name.now (λ e. refl) c.self.inside.by_name.entries))

pub returns-clause-absent : goal.returns-clause-absent
returns-clause-absent c = rw (← c.self.view_is) (when_none _ _ _ c.get_index_of.ensures.found (absent-Contains _ publisher_in (λ p. p.name) c.args.name.now (λ e. refl) c.self.inside.by_name.entries))
