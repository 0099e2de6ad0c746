-- Among the turns of all, each server's are those that it took.
use Rattle.std.proofs.Common.{◌≡◌, ℕ, zero, suc, ◌<◌, ◌≤◌, List, [], ◌∷◌, ◌++◌, Bool, true, false, cond, ◌==◌, Option, Some, None, map, filter, refl, sym, ap, ◌∙◌, arith, inl, inr}
use Rattle.std.proofs.lemmas.Bool.{eq-eqb, ne_eqb, cases_lt}
use Rattle.std.proofs.lemmas.List.{append-nil}
use Rattle.hdl_ops.specs.declared.change.Change.{Change}
use Rattle.hdl_laws.specs.Steps.{Turn}
use Rattle.hdl_cluster_laws.specs.Together.{ServerTurn, at_server, turns_of_first}
use Rattle.hdl_cluster_laws.specs.Shared.{Part, Took, TookOver, IsNextTurn, FollowsList, before_by, before_change, after_by, after_change, turns_in, turns_of_server}
use Rattle.hdl_cluster_laws.specs.SharedLaws.{KeepsTurns, shared_turns}

-- the turns of a server, by whether the first is one of them
one_more : (s : ℕ) (t : ServerTurn) (ts : List ServerTurn) → turns_of_server s (t ∷ ts) ≡ cond (t.server == s) (t.step ∷ turns_of_server s ts) (turns_of_server s ts)
one_more s t ts = pick (t.server == s)
  where
    pick : (b : Bool) → map (λ x. x.step) (cond b (t ∷ filter (λ x. x.server == s) ts) (filter (λ x. x.server == s) ts)) ≡ cond b (t.step ∷ turns_of_server s ts) (turns_of_server s ts)
    pick true = refl
    pick false = refl

of_both : (s : ℕ) (a b : List ServerTurn) → turns_of_server s (a ++ b) ≡ turns_of_server s a ++ turns_of_server s b
of_both s [] b = refl
of_both s (t ∷ a) b = one_more s t (a ++ b) ∙ pick (of_both s a b) (t.server == s) ∙ ap (λ x. x ++ turns_of_server s b) (sym (one_more s t a))
  where
    pick : turns_of_server s (a ++ b) ≡ turns_of_server s a ++ turns_of_server s b → (c : Bool)
        → cond c (t.step ∷ turns_of_server s (a ++ b)) (turns_of_server s (a ++ b)) ≡ cond c (t.step ∷ turns_of_server s a) (turns_of_server s a) ++ turns_of_server s b
    pick later true = ap (λ x. t.step ∷ x) later
    pick later false = later

of_own : (s : ℕ) (ts : List Turn) → turns_of_server s (map (at_server s) ts) ≡ ts
of_own s [] = refl
of_own s (t ∷ ts) =
    let rest = turns_of_server s (map (at_server s) ts) in
    one_more s (at_server s t) (map (at_server s) ts) ∙ ap (λ b. cond b (t ∷ rest) rest) (eq-eqb s s refl) ∙ ap (λ x. t ∷ x) (of_own s ts)

of_other : (s n : ℕ) (ts : List Turn) → (n ≡ s → ⊥) → turns_of_server s (map (at_server n) ts) ≡ []
of_other s n [] other = refl
of_other s n (t ∷ ts) other =
    let rest = turns_of_server s (map (at_server n) ts) in
    one_more s (at_server n t) (map (at_server n) ts) ∙ ap (λ b. cond b (t ∷ rest) rest) (ne_eqb n s other) ∙ of_other s n ts other

none_of : (s n : ℕ) (turns : ℕ → List Turn) → n ≤ s → turns_of_server s (turns_of_first n turns) ≡ []
none_of s zero turns le = refl
none_of s (suc n) turns le =
    of_both s (turns_of_first n turns) (map (at_server n) (turns n)) ∙ ap (λ x. x ++ turns_of_server s (map (at_server n) (turns n))) (none_of s n turns (omega (arith, le)))
    ∙ of_other s n (turns n) (λ e. omega (arith, le, e))

of_first : (s n : ℕ) (turns : ℕ → List Turn) → s < n → turns_of_server s (turns_of_first n turns) ≡ turns s
of_first s zero turns lt = absurd (omega (arith, lt))
of_first s (suc n) turns lt = of_both s (turns_of_first n turns) (map (at_server n) (turns n)) ∙ elim (cases_lt s n) [
  | inl below ↦
      ap (λ x. x ++ turns_of_server s (map (at_server n) (turns n))) (of_first s n turns below)
      ∙ ap (λ x. turns s ++ x) (of_other s n (turns n) (λ e. omega (arith, below, e))) ∙ append-nil (turns s)
  | inr above ↦
      let is : n ≡ s = omega (arith, lt, above) in
      ap (λ x. x ++ turns_of_server s (map (at_server n) (turns n))) (none_of s n turns above) ∙ ap (λ k. turns_of_server s (map (at_server k) (turns k))) is ∙ of_own s (turns s)
]

nobody : (s : ℕ) (c : ServerTurn) → (c.server ≡ s → ⊥) → turns_of_server s (c ∷ []) ≡ []
nobody s c other = one_more s c [] ∙ ap (λ b. cond b (c.step ∷ []) []) (ne_eqb c.server s other)

-- a server's turns are those before the next change, the change if it is its own, and those after it
abbrev Cut : ℕ → List Turn → List Turn → ServerTurn → List Part → Type 0
Cut s all before c after = all ≡ before ++ (turns_of_server s (c ∷ []) ++ turns_in after)

cut : (s : ℕ) (ps : List Part) (c : ServerTurn) (cs : List ServerTurn) → FollowsList s ps (c ∷ cs) → Cut s (turns_in ps) (before_change ps) c (after_change ps) × FollowsList s (after_change ps) cs
cut s [] c cs along = (ap (λ x. x ++ []) (sym (nobody s c along.0)), along.1)
cut s (TookOver v ∷ ps) c cs along = (ap (λ x. x ++ turns_in ps) (sym (nobody s c along.0)), along.2)
cut s (Took step ∷ ps) c cs along = took (λ rest. cut s ps c cs rest) step.change along
  where
    took : (FollowsList s ps (c ∷ cs) → Cut s (turns_in ps) (before_change ps) c (after_change ps) × FollowsList s (after_change ps) cs) → (o : Option Change) → IsNextTurn (at_server s step) o (FollowsList s ps) (c ∷ cs)
        → Cut s (step ∷ turns_in ps) (before_by o step (before_change ps)) c (after_by o ps (after_change ps)) × FollowsList s (after_by o ps (after_change ps)) cs
    took later None rest =
        let it = later rest in
        (ap (λ x. step ∷ x) it.0, it.1)
    took later (Some change) rest = (
      ap (λ x. x ++ turns_in ps) (sym (of_own s (step ∷ []))) ∙ ap (λ (d : ServerTurn). turns_of_server s (d ∷ []) ++ turns_in ps) (sym rest.0),
      rest.1,
    )

final : (s : ℕ) (ps : List Part) → FollowsList s ps [] → before_change ps ≡ turns_in ps
final s [] along = refl
final s (TookOver v ∷ ps) along = absurd along
final s (Took step ∷ ps) along = took (λ rest. final s ps rest) step.change along
  where
    took : (FollowsList s ps [] → before_change ps ≡ turns_in ps) → (o : Option Change) → IsNextTurn (at_server s step) o (FollowsList s ps) [] → before_by o step (before_change ps) ≡ step ∷ turns_in ps
    took later None rest = ap (λ x. step ∷ x) (later rest)
    took later (Some change) rest = absurd rest

pub keeps_turns : KeepsTurns
keeps_turns servers parts [] server lt along = of_first server servers (λ s. before_change (parts s)) lt ∙ final server (parts server) along
keeps_turns servers parts (c ∷ cs) server lt along =
    let turns : ℕ → List Turn = λ s. before_change (parts s) in
    let rest = shared_turns servers (λ s. after_change (parts s)) cs in
    let it = cut server (parts server) c cs along in
    of_both server (turns_of_first servers turns) (c ∷ rest)
    ∙ ap (λ x. x ++ turns_of_server server (c ∷ rest)) (of_first server servers turns lt)
    ∙ ap (λ x. turns server ++ x) (of_both server (c ∷ []) rest ∙ ap (λ x. turns_of_server server (c ∷ []) ++ x) (keeps_turns servers (λ s. after_change (parts s)) cs server lt it.1))
    ∙ sym it.0
