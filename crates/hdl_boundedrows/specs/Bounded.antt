-- A table with bounds: whose handles count for whom, and what a write makes of the counts.
use Rattle.std.specs.Prelude.{refl, ◌≡◌, ◌≤◌, max, ◌+◌, ℕ, List, [], ◌∷◌, ◌++◌, sum_by, codes, Bool, true, not, ◌&&◌, ◌||◌, if◌then◌else◌}
use Rattle.std.specs.List.{list_any, list_all}
use Rattle.std.specs.Str.{bytes_eq}
use Rattle.std.specs.Coded.{Coded, code_by, coded×, coded_ℕ, coded_list}
use Rattle.hdl_name.specs.Name.{canonical, prefix, is_admin}
use Rattle.hdl_rows.specs.Table.{Table, table_code, has, values_of, names_of}
use Rattle.hdl_rows.specs.Debt.{Debt, debt_code}
use Rattle.hdl_boundedrows.specs.declared.amount.Count.{Count}
use Rattle.hdl_boundedrows.specs.declared.account.Account.{Account}
use Rattle.hdl_boundedrows.specs.declared.account.Bound.{Bound}
use Rattle.hdl_boundedrows.specs.declared.account.CountChange.{CountChange}
use Rattle.hdl_boundedrows.specs.Amount.{Measure, in_handles, in_values, in_octets, with_handle, moved_count, may_become}
use Rattle.hdl_limits.specs.Counts.{at_most_u64}

-- ---- what is kept

-- whether this is the prefix of one of these administrative handles
abbrev pub is_among : List (List ℕ) → List ℕ → Bool
is_among roots p = list_any (λ r. bytes_eq (prefix r) p) roots

-- whether handles of this prefix count
abbrev pub has_prefix : Account → List ℕ → Bool
has_prefix a p = is_among a.bound.roots.items p

abbrev pub is_counted : List Account → List ℕ → Bool
is_counted accounts p = list_any (λ a. has_prefix a p) accounts

-- what is held after a change
abbrev pub held_after : CountChange → Count → Count
held_after c held = record {
  handles = moved_count held.handles c.gain.handles c.back.handles;
  amount = record {
    values = moved_count held.amount.values c.gain.amount.values c.back.amount.values;
    octets = moved_count held.amount.octets c.gain.amount.octets c.back.amount.octets;
  };
}

-- whether the publisher may hold that: a bound is one of values and octets
abbrev pub may_change : Account → CountChange → Bool
may_change a c =
    may_become a.bound.most.values a.held.amount.values (held_after c a.held).amount.values
    && may_become a.bound.most.octets a.held.amount.octets (held_after c a.held).amount.octets

-- an account once a handle of this prefix changed
abbrev pub after_change : List ℕ → CountChange → Account → Account
after_change p c a = if has_prefix a p then record a { held = held_after c a.held } else a

-- the change is nothing to the publisher, or one that it may make
abbrev pub is_permitted : List ℕ → CountChange → Account → Bool
is_permitted p c a = not (has_prefix a p) || may_change a c

abbrev pub are_permitted : List Account → List ℕ → CountChange → Bool
are_permitted accounts p c = list_all (is_permitted p c) accounts

-- ---- what a bound counts

-- the administrative handles of its prefixes
abbrev pub roots_of : Bound → List (List ℕ)
roots_of b = b.roots.items

-- a prefix counts by its administrative handle, unless that is 0.NA/0.NA or the prefix counts already
abbrev pub is_new_root : List (List ℕ) → List ℕ → Bool
is_new_root roots root = is_admin root && not (bytes_eq (prefix root) (codes "0.na")) && not (is_among roots (prefix root))

abbrev pub with_root : List (List ℕ) → List ℕ → List (List ℕ)
with_root roots root = if is_new_root roots root then roots ++ root ∷ [] else roots

-- what a handle of the table counts with its values
abbrev pub held_at : Measure → Table → List ℕ → ℕ
held_at m t h = with_handle m h (values_of t h)

-- an administrative handle where the table has it, else nothing
abbrev pub held_at_root : Measure → Table → List ℕ → ℕ
held_at_root m t root = if has t (canonical root) then held_at m t (canonical root) else 0

-- the handles of a prefix: its administrative handle, and those of the authority
abbrev pub held_under : Measure → Table → List ℕ → ℕ
held_under m t root = held_at_root m t root + sum_by (held_at m t) (names_of t (prefix root))

-- the handles of these prefixes
abbrev pub held_by : Measure → Table → List (List ℕ) → ℕ
held_by m t roots = sum_by (held_under m t) roots

-- ---- what a contract sees

-- What is counted for a publisher: the administrative handles of its prefixes, the most that these may count, and what is held as far as it is counted.
-- No limit stands for handles.
pub record Holding : Type 0 where
  pub roots : List (List ℕ)
  pub most_values : ℕ
  pub most_octets : ℕ
  pub handles : ℕ
  pub values : ℕ
  pub octets : ℕ

abbrev pub holding_of : Account → Holding
holding_of a = record { roots = a.bound.roots.items; most_values = a.bound.most.values; most_octets = a.bound.most.octets; handles = a.held.handles; values = a.held.amount.values; octets = a.held.amount.octets }

-- what is counted for a bound over a table at the start: all that the table holds under its prefixes
abbrev pub holding_at_first : Table → Bound → Holding
holding_at_first t b = record { roots = roots_of b; most_values = b.most.values; most_octets = b.most.octets; handles = at_most_u64 (held_by in_handles t (roots_of b)); values = at_most_u64 (held_by in_values t (roots_of b)); octets = at_most_u64 (held_by in_octets t (roots_of b)) }

-- what the table holds, how many calls were refused by it or by a bound, what was read, what is counted for each publisher with a bound, and what the table owes
pub record Bounded : Type 0 where
  pub table : Table
  pub refused : ℕ
  pub reads : ℕ
  pub holdings : List Holding
  pub debt : Debt

-- what is counted once so much was gained and so much given back
abbrev pub moved_by : (Measure → ℕ) → (Measure → ℕ) → Holding → Holding
moved_by gain back h = record h { handles = moved_count h.handles (at_most_u64 (gain in_handles)) (at_most_u64 (back in_handles)); values = moved_count h.values (at_most_u64 (gain in_values)) (at_most_u64 (back in_values)); octets = moved_count h.octets (at_most_u64 (gain in_octets)) (at_most_u64 (back in_octets)) }

-- What a write of a handle of this prefix makes of it, by what it gains and what it gives back: nothing where they don't count.
abbrev pub holding_after : List ℕ → (Measure → ℕ) → (Measure → ℕ) → Holding → Holding
holding_after p gain back h = if is_among h.roots p then moved_by gain back h else h

-- nothing
abbrev pub none : Measure → ℕ
none _ = 0

-- each count that has a bound is within it, or no more than it was
abbrev pub IsBelow : Holding → Holding → Type 0
IsBelow old new = (new.values ≤ max old.most_values old.values) × (new.octets ≤ max old.most_octets old.octets)

-- the same, where handles of this prefix count
abbrev pub IsWithin : List ℕ → Holding → Holding → Type 0
IsWithin p old new = is_among old.roots p ≡ true → IsBelow old new

abbrev pub holding_code : Coded Holding
holding_code =
    code_by (List (List ℕ) × (ℕ × (ℕ × (ℕ × (ℕ × ℕ))))) (coded× (coded_list (coded_list coded_ℕ)) (coded× coded_ℕ (coded× coded_ℕ (coded× coded_ℕ (coded× coded_ℕ coded_ℕ)))))
    (λ h. (h.roots, (h.most_values, (h.most_octets, (h.handles, (h.values, h.octets))))))
    (λ p. record { roots = p.0; most_values = p.1.0; most_octets = p.1.1.0; handles = p.1.1.1.0; values = p.1.1.1.1.0; octets = p.1.1.1.1.1 }) (λ _. refl)

abbrev pub bounded_code : Coded Bounded
bounded_code =
    code_by (Table × (ℕ × (ℕ × (List Holding × Debt)))) (coded× table_code (coded× coded_ℕ (coded× coded_ℕ (coded× (coded_list holding_code) debt_code))))
    (λ b. (b.table, (b.refused, (b.reads, (b.holdings, b.debt))))) (λ p. record { table = p.0; refused = p.1.0; reads = p.1.1.0; holdings = p.1.1.1.0; debt = p.1.1.1.1 }) (λ _. refl)
