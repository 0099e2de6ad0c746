use Rattle.std.proofs.Common.{◌≡◌, ◌++◌, ◌∷◌, sym, subst, take, drop, map, Contains, true, rules}
use Rattle.hdl_export.specs.Rows.{is_among}
use Rattle.hdl_export.proofs.Walks.{any_there, insert_keeps}
use Rattle.hdl_export.proofs.prefixes.put_authority.Goals as goal

pub returns-then-is_among-clause-among : goal.returns-then-is_among-clause-among
returns-then-is_among-clause-among c =
    let there : is_among c.args.authority.now (map (λ a. a.now) c.args.all.now.items) ≡ true = cc in
    any_there c.args.authority.now (map (λ a. a.now) c.args.all.now.items) there

pub returns-clause-kept : goal.returns-clause-kept
returns-clause-kept c = λ x there.
    let items : c.insert.new.self.items ≡ take c.place_among-at.result c.args.all.now.items ++ c.args.authority ∷ drop c.place_among-at.result c.args.all.now.items = search rules in
    subst (λ ts. Contains (map (λ a. a.now) ts) x) (sym items) (insert_keeps c.args.all.now.items c.place_among-at.result c.args.authority x there)
