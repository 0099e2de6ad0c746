use Rattle.std.proofs.Common.{◌≡◌, ◌∷◌, List, ℕ, Bor, sym, subst, take, Contains, codes, arith}
use Rattle.std.proofs.lemmas.Grind.{common_steps}
use Rattle.hdl_export.proofs.Walks.{texts_of, among_more}
use Rattle.hdl_export.proofs.prefixes.authorities_of.Goals as goal

pub loop-prefix-preserved : goal.loop-prefix-preserved
loop-prefix-preserved c =
    among_more c.args.prefixes.now c.loop-prefix.prefix-index _ (codes "0.na") (texts_of c.loop-prefix.all.items) (texts_of c.put_authority-in-loop-prefix.new.all.items)
    c.loop-prefix-test.true c.loop-prefix.invariant c.in_ok-put_authority-2.ensures.kept c.in_ok-put_authority-2.ensures.among

pub returns : goal.returns
returns c = λ x there.
    let whole : take c.loop-prefix.prefix-index c.args.prefixes.now ≡ c.args.prefixes.now = grind (arith, common_steps) in
    c.loop-prefix.invariant x (subst (λ (ps : List (Bor (List ℕ))). Contains (codes "0.na" ∷ texts_of ps) x) (sym whole) there)
