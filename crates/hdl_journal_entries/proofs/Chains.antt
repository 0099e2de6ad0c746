-- Two chains of one sum.
use Rattle.std.proofs.Common.{◌≡◌, ℕ, ◌+◌, List, [], ◌∷◌, ◌++◌, length, Bool, true, false, cond, inl, inr, refl, sym, ap, ◌∙◌, arith, true≢false}
use Rattle.std.specs.Prelude.{◌⊎◌, nat_le, nat_lt}
use Rattle.std.specs.List.{AllByRecursion}
use Rattle.std.specs.Str.{bytes_eq}
use Rattle.std.proofs.lemmas.Slice.Eq.{bytes_eq-Decides}
use Rattle.sha2.specs.Sha256.{sha256}
use Rattle.hdl_value.proofs.Codecs.{prefix_free}
use Rattle.hdl_journal_entries.specs.declared.entry.Entry.{Entry}
use Rattle.hdl_journal_entries.specs.declared.chain.Chain.{Chain}
use Rattle.hdl_journal_entries.specs.declared.chain.EntryOrder.TheVariants.{Next, Earlier, Later, Elsewhere}
use Rattle.hdl_journal_entries.specs.Entries.{entry_at, entry_octets, EntryFits}
use Rattle.hdl_journal_entries.specs.Chain.{after_entry, place_of, chain_after, AreChained, HaveOneSum, DivergenceIsSeen}
use Rattle.hdl_journal_entries.proofs.Codecs.{entry_codec}

same_place : (a b c : Bool) → cond a Earlier (cond b Later (cond c Next Elsewhere)) ≡ Next → c ≡ true
same_place true b c e = absurd cc
same_place false true c e = absurd cc
same_place false false true e = refl
same_place false false false e = absurd cc

-- the next entry bears the chain's sum
bears : (chain : Chain) (e : Entry) → place_of chain e ≡ Next → e.before ≡ chain.sum
bears chain e is = (bytes_eq-Decides e.before chain.sum).0 (same_place (nat_le e.number chain.number) (nat_lt (chain.number + 1) e.number) (bytes_eq e.before chain.sum) is)

one_entry : (e f : Entry) → EntryFits e → EntryFits f → entry_octets e ≡ entry_octets f → e ≡ f
one_entry e f fe ff same = (prefix_free entry_at entry_octets EntryFits entry_codec e f [] [] fe ff (ap (λ s. s ++ []) same)).0

-- texts of one sum are equal, or two were found
found : (a b : List ℕ) → sha256 a ≡ sha256 b → (a ≡ b) ⊎ HaveOneSum
found a b same = pick (bytes_eq a b) refl
  where
    pick : (t : Bool) → bytes_eq a b ≡ t → (a ≡ b) ⊎ HaveOneSum
    pick true e = inl ((bytes_eq-Decides a b).0 e)
    pick false e = inr (a, b, (λ is. true≢false (sym ((bytes_eq-Decides a b).1 is) ∙ e)), same)

agree : (c d : Chain) (es fs : List Entry) → AllByRecursion EntryFits es → AllByRecursion EntryFits fs → AreChained c es → AreChained d fs → length es ≡ length fs
    → (chain_after c es).sum ≡ (chain_after d fs).sum → ((c.sum ≡ d.sum) × (es ≡ fs)) ⊎ HaveOneSum
agree c d [] [] fe ff ce cf long same = inl (same, refl)
agree c d [] (f ∷ fs) fe ff ce cf long same = absurd (omega (arith, long))
agree c d (e ∷ es) [] fe ff ce cf long same = absurd (omega (arith, long))
agree c d (e ∷ es) (f ∷ fs) fe ff ce cf long same = later (agree (after_entry e.number (entry_octets e)) (after_entry f.number (entry_octets f)) es fs fe.1 ff.1 ce.1 cf.1 (omega (arith, long)) same)
  where
    here : es ≡ fs → (entry_octets e ≡ entry_octets f) ⊎ HaveOneSum → ((c.sum ≡ d.sum) × (e ∷ es ≡ f ∷ fs)) ⊎ HaveOneSum
    here rest (inl text) =
        let one : e ≡ f = one_entry e f fe.0 ff.0 text in
        inl (sym (bears c e ce.0) ∙ ap (λ (x : Entry). x.before) one ∙ bears d f cf.0, λ i. one i ∷ rest i)
    here rest (inr sums) = inr sums

    later : ((sha256 (entry_octets e) ≡ sha256 (entry_octets f)) × (es ≡ fs)) ⊎ HaveOneSum → ((c.sum ≡ d.sum) × (e ∷ es ≡ f ∷ fs)) ⊎ HaveOneSum
    later (inl it) = here it.1 (found (entry_octets e) (entry_octets f) it.0)
    later (inr sums) = inr sums

pub divergence_is_seen : DivergenceIsSeen
divergence_is_seen chain es fs fe ff ce cf long same = pick (agree chain chain es fs fe ff ce cf long same)
  where
    pick : ((chain.sum ≡ chain.sum) × (es ≡ fs)) ⊎ HaveOneSum → (es ≡ fs) ⊎ HaveOneSum
    pick (inl it) = inl it.1
    pick (inr sums) = inr sums
