use Rattle.std.proofs.Common.{sym, ap, ◌∙◌, subst}
use Rattle.hdl_name.specs.Name.{canonical}
use Rattle.hdl_value.specs.Refs.{place_of}
use Rattle.hdl_cache.specs.Masks.{subject, kept_in, AreMasks}
use Rattle.hdl_cache.proofs.Views.{found, used}
use Rattle.hdl_cache.proofs.Truth.{found_true, used_true}
use Rattle.hdl_cache.proofs.masks.Masks.find.Goals as goal

pub returns-clause-found : goal.returns-clause-found
returns-clause-found c = found c.args.self.now c.in_ok-pair.pair (subject (canonical c.args.name.now) (place_of c.args.key.now)) c.in_ok-pair.ensures c.self.inside.kept.entries c.copied-found.result c.self.view_is (c.copied-found.ensures ∙ c.peek.ensures)

pub returns-clause-used : goal.returns-clause-used
returns-clause-used c = ap (λ k. kept_in k.entries) c.promote.ensures.entries ∙ used c.args.self.now c.in_ok-pair.pair (subject (canonical c.args.name.now) (place_of c.args.key.now)) c.in_ok-pair.ensures c.self.inside.kept.entries c.self.view_is

pub returns-clause-of_table : goal.returns-clause-of_table
returns-clause-of_table c = λ t all. found_true t c.args.self.now (subject (canonical c.args.name.now) (place_of c.args.key.now)) c.copied-found.result all (returns-clause-found c)

pub returns-clause-still_true : goal.returns-clause-still_true
returns-clause-still_true c = λ t all. subst (AreMasks t) (sym (returns-clause-used c)) (used_true t c.args.self.now (subject (canonical c.args.name.now) (place_of c.args.key.now)) all)
