-- There are a numbering, and a service that has the lanes of all servers.
use Rattle.std.proofs.Common.{◌≡◌, ℕ, zero, suc, ◌+◌, ◌*◌, ◌<◌, ◌≤◌, List, [], ◌∷◌, ◌++◌, Bool, true, false, cond, Some, None, unwrap_or, refl, sym, ap, ◌∙◌, subst, inl, inr, arith, nat_lt}
use Rattle.std.proofs.lemmas.Bool.{cases_order, cases_lt}
use Rattle.std.proofs.lemmas.Bool.Decides.{nat_tests}
use Rattle.std.proofs.lemmas.Nat.{mul-le, mul-add-lt}
use Rattle.std.specs.Ordering.{eq_by_cmp, is_eq, nat_cmp}
use Rattle.std.specs.Cmp.{nat_cmp_total, tied_itself}
use Rattle.std.specs.FinMap as map
use Rattle.std.specs.FinMap.{find, nat_cmp-IsAntisymmetric}
use Rattle.hdl_value.proofs.Places.{tied}
use Rattle.hdl_laws.specs.Lanes.{LaneState, fresh}
use Rattle.hdl_laws.specs.Worlds.{World}
use Rattle.hdl_cluster_laws.specs.Together.{AreApart, HasServer}
use Rattle.hdl_cluster_laws.specs.SharedLaws.{HasNumbering, HasWhole}

-- ---- a numbering

abbrev number_of : ℕ → ℕ → ℕ
number_of server lane = (server + lane) * (server + lane + 1) + server

-- a number with a smaller sum is smaller
below : (a b s r : ℕ) → s < a + 1 → a < b → a * (a + 1) + s < b * (b + 1) + r
below a b s r small less =
    let first = mul-add-lt a (a + 1) s (a + 1) (omega arith) small in
    let second = mul-le (a + 1) (a + 1) b (b + 1) (omega (arith, less)) (omega (arith, less)) in
    omega (arith, first, second)

numbered : AreApart number_of
numbered server other lane lane' same = elim (cases_order (server + lane) (other + lane')) [
  | inl sums ↦
      let products : (server + lane) * (server + lane + 1) ≡ (other + lane') * (other + lane' + 1) = ap (λ n. n * (n + 1)) sums in
      let first : server ≡ other = omega (arith, same, products) in
      (first, omega (arith, sums, first))
  | inr order ↦ elim order [
    | inl less ↦ let it = below (server + lane) (other + lane') server other (omega arith) less in absurd (omega (arith, same, it))
    | inr more ↦ let it = below (other + lane') (server + lane) other server (omega arith) more in absurd (omega (arith, same, it))
  ]
]

pub has_numbering : HasNumbering
has_numbering = (number_of, numbered)

-- ---- the lanes of all

none_tied : (b : Bool) → (b ≡ true → ⊥) → b ≡ false
none_tied true f = absurd (f refl)
none_tied false f = refl

apart_keys : (k l : ℕ) → (k ≡ l → ⊥) → eq_by_cmp nat_cmp k l ≡ false
apart_keys k l other = none_tied (eq_by_cmp nat_cmp k l) (λ e. other (nat_cmp-IsAntisymmetric k l (tied _ e)))

same_keys : (k l : ℕ) → k ≡ l → eq_by_cmp nat_cmp k l ≡ true
same_keys k l same = subst (λ m. eq_by_cmp nat_cmp k m ≡ true) same (ap is_eq (tied_itself nat_cmp_total k))

module _ {X : Type 0} (number : ℕ → ℕ → ℕ) (apart : AreApart number) where
  -- what stands at a server's lanes, by their numbers
  abbrev renumbered : ℕ → List (ℕ × X) → List (ℕ × X)
  renumbered server [] = []
  renumbered server (e ∷ es) = (number server e.0, e.1) ∷ renumbered server es

  found_own : (server lane : ℕ) (es : List (ℕ × X)) → find nat_cmp (number server lane) (renumbered server es) ≡ find nat_cmp lane es
  found_own server lane [] = refl
  found_own server lane (e ∷ es) = elim (cases_order lane e.0) [
    | inl same ↦
        ap (λ b. cond b (Some e.1) (find nat_cmp (number server lane) (renumbered server es))) (same_keys (number server lane) (number server e.0) (ap (number server) same))
        ∙ ap (λ b. cond b (Some e.1) (find nat_cmp lane es)) (sym (same_keys lane e.0 same))
    | inr order ↦
        let other : lane ≡ e.0 → ⊥ = λ is. elim order [ inl less ↦ omega (arith, is, less) | inr more ↦ omega (arith, is, more) ] in
        ap (λ b. cond b (Some e.1) (find nat_cmp (number server lane) (renumbered server es))) (apart_keys (number server lane) (number server e.0) (λ is. other (apart server server lane e.0 is).1))
        ∙ found_own server lane es ∙ ap (λ b. cond b (Some e.1) (find nat_cmp lane es)) (sym (apart_keys lane e.0 other))
  ]

  found_none : (server other lane : ℕ) (es : List (ℕ × X)) → (server ≡ other → ⊥) → find nat_cmp (number server lane) (renumbered other es) ≡ None
  found_none server other lane [] apart_servers = refl
  found_none server other lane (e ∷ es) apart_servers =
      ap (λ b. cond b (Some e.1) (find nat_cmp (number server lane) (renumbered other es))) (apart_keys (number server lane) (number other e.0) (λ is. apart_servers (apart server other lane e.0 is).0))
      ∙ found_none server other lane es apart_servers

  -- what stands at the lanes of the first servers
  abbrev of_first : ℕ → (ℕ → List (ℕ × X)) → List (ℕ × X)
  of_first zero each = []
  of_first (suc server) each = of_first server each ++ renumbered server (each server)

  -- an entry is found in the one list if it isn't in the other
  found_second : (q : ℕ) (es fs : List (ℕ × X)) → find nat_cmp q es ≡ None → find nat_cmp q (es ++ fs) ≡ find nat_cmp q fs
  found_second q [] fs none = refl
  found_second q (e ∷ es) fs none = pick (found_second q es fs) (eq_by_cmp nat_cmp q e.0) none
    where
      pick : (find nat_cmp q es ≡ None → find nat_cmp q (es ++ fs) ≡ find nat_cmp q fs) → (b : Bool) → cond b (Some e.1) (find nat_cmp q es) ≡ None → cond b (Some e.1) (find nat_cmp q (es ++ fs)) ≡ find nat_cmp q fs
      pick later true n = absurd cc
      pick later false n = later n

  found_first : (q : ℕ) (es fs : List (ℕ × X)) → find nat_cmp q fs ≡ None → find nat_cmp q (es ++ fs) ≡ find nat_cmp q es
  found_first q [] fs none = none
  found_first q (e ∷ es) fs none = ap (λ o. cond (eq_by_cmp nat_cmp q e.0) (Some e.1) o) (found_first q es fs none)

  none_beyond : (server lane servers : ℕ) (each : ℕ → List (ℕ × X)) → servers ≤ server → find nat_cmp (number server lane) (of_first servers each) ≡ None
  none_beyond server lane zero each beyond = refl
  none_beyond server lane (suc n) each beyond =
      found_first (number server lane) (of_first n each) (renumbered n (each n)) (found_none server n lane (each n) (λ is. omega (arith, is, beyond)))
      ∙ none_beyond server lane n each (omega (arith, beyond))

  found_among : (server lane servers : ℕ) (each : ℕ → List (ℕ × X)) → server < servers → find nat_cmp (number server lane) (of_first servers each) ≡ find nat_cmp lane (each server)
  found_among server lane zero each among = absurd (omega (arith, among))
  found_among server lane (suc n) each among = elim (cases_lt server n) [
    | inl before ↦
        found_first (number server lane) (of_first n each) (renumbered n (each n)) (found_none server n lane (each n) (λ is. omega (arith, is, before)))
        ∙ found_among server lane n each before
    | inr after ↦
        let is : server ≡ n = omega (arith, among, after) in
        found_second (number server lane) (of_first n each) (renumbered n (each n)) (none_beyond server lane n each after)
        ∙ ap (λ k. find nat_cmp (number server lane) (renumbered k (each k))) (sym is) ∙ found_own server lane (each server)
  ]

-- ---- the service

-- a server without lanes
abbrev without_lanes : World → World
without_lanes like = record { site = record like.site { owners = map.empty }; table = like.table; lanes = map.empty }

abbrev all_owners : (number : ℕ → ℕ → ℕ) → AreApart number → ℕ → (ℕ → World) → map.FinMap nat_cmp ℕ
all_owners number apart servers worlds = map.from_entries (of_first number apart servers (λ server. map.entries (worlds server).site.owners))

abbrev all_lanes : (number : ℕ → ℕ → ℕ) → AreApart number → ℕ → (ℕ → World) → map.FinMap nat_cmp LaneState
all_lanes number apart servers worlds = map.from_entries (of_first number apart servers (λ server. map.entries (worlds server).lanes))

abbrev whole_of : (number : ℕ → ℕ → ℕ) → AreApart number → ℕ → (ℕ → World) → World → World
whole_of number apart servers worlds like = record { site = record like.site { owners = all_owners number apart servers worlds }; table = like.table; lanes = all_lanes number apart servers worlds }

is_one : (server servers : ℕ) → server < servers → nat_lt server servers ≡ true
is_one server servers e = grind (arith, nat_tests)

one_is : (server servers : ℕ) → nat_lt server servers ≡ true → server < servers
one_is server servers e = grind (arith, nat_tests)

beyond_is : (server servers : ℕ) → nat_lt server servers ≡ false → servers ≤ server
beyond_is server servers e = grind (arith, nat_tests)

pub has_whole : HasWhole
has_whole number servers worlds like apart alike = (
  λ server. cond (nat_lt server servers) (worlds server) (without_lanes like),
  whole_of number apart servers worlds like,
  λ server among. ap (λ b. cond b (worlds server) (without_lanes like)) (is_one server servers among),
  record { hostings = refl; spoken = λ publisher. refl; table = refl },
  λ server. pick server (nat_lt server servers) refl,
)
  where
    pick : (server : ℕ) (b : Bool) → nat_lt server servers ≡ b → HasServer number server (cond b (worlds server) (without_lanes like)) (whole_of number apart servers worlds like)
    pick server true e =
        let among = one_is server servers e in
        let same = alike server among in
        record {
          owners = λ lane. map.get-from_entries nat_cmp_total _ (number server lane)
              ∙ found_among number apart server lane servers (λ s. map.entries (worlds s).site.owners) among ∙ sym (map.get-entries (worlds server).site.owners lane);
          hostings = sym same.hostings;
          spoken = λ publisher. sym (same.spoken publisher);
          table = sym same.table;
          lanes = λ lane. ap (λ o. unwrap_or o (fresh false))
              (map.get-from_entries nat_cmp_total _ (number server lane)
              ∙ found_among number apart server lane servers (λ s. map.entries (worlds s).lanes) among ∙ sym (map.get-entries (worlds server).lanes lane));
        }
    pick server false e =
        let beyond = beyond_is server servers e in
        record {
          owners = λ lane. map.get-from_entries nat_cmp_total _ (number server lane)
              ∙ none_beyond number apart server lane servers (λ s. map.entries (worlds s).site.owners) beyond ∙ sym (map.get-empty nat_cmp lane);
          hostings = refl;
          spoken = λ publisher. refl;
          table = refl;
          lanes = λ lane. ap (λ o. unwrap_or o (fresh false))
              (map.get-from_entries nat_cmp_total _ (number server lane)
              ∙ none_beyond number apart server lane servers (λ s. map.entries (worlds s).lanes) beyond ∙ sym (map.get-empty nat_cmp lane));
        }
