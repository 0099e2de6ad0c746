-- What events and runs read.
use Rattle.std.proofs.Common.{◌≡◌, ◌≤◌, ◌<◌, ◌+◌, ◌*◌, ℕ, suc, false, Bool, List, [], ◌∷◌, ◌++◌, Some, None, length, sym, subst, ◌∙◌, arith}
use Rattle.std.proofs.Math.Nat.{suc-mul}
use Rattle.std.proofs.lemmas.List.{map-append, length-append}
use Rattle.hdl_rows.specs.Table.{Table}
use Rattle.hdl_reach.specs.Cost.{Most, HasAtMost, ReadsWithin}
use Rattle.hdl_reach.proofs.Costs.{less_read}
use Rattle.hdl_ops.specs.Cost.{anyone_cost, proof_cost}
use Rattle.hdl_tenants.specs.Register.{Register}
use Rattle.hdl_slots.specs.declared.pending.Pending.{Pending}
use Rattle.hdl_slots.specs.Lanes.{challenge_of}
use Rattle.hdl_events.specs.declared.Event.{Event}
use Rattle.hdl_events.specs.declared.Outcome.{Outcome}
use Rattle.hdl_laws.specs.Lanes.{LaneState, fresh}
use Rattle.hdl_laws.specs.Worlds.{World, lane_of}
use Rattle.hdl_laws.specs.Steps.{Turn}
use Rattle.hdl_laws.specs.Runs.{IsRun, HasStep, last}
use Rattle.hdl_laws.specs.Cost.{IsStranger, IsUnchallenged, HaveAtMost, HasRunReads}
use Rattle.hdl_laws.proofs.Joined.{run_joined, last_joined}
use Rattle.hdl_core.specs.Held.{Held, state_at}
use Rattle.hdl_core.specs.Worlds.{world_of}
use Rattle.hdl_core.proofs.Opened.{table_of_world}
use Rattle.hdl_core.proofs.Places.{lane_here}

-- ---- what a lane's message reads

-- what was read, and then a call that read nothing
pub then_nothing : (t : Table) (cost : Most → ℕ) (x y z : ℕ) → ReadsWithin t cost x y → z ≡ y → ReadsWithin t cost x z
then_nothing t cost x y z read same = subst (λ (n : ℕ). ReadsWithin t cost x n) (sym same) read

-- a decision for anyone reads less than one with a proof
pub anyone_less : (t : Table) (x y : ℕ) → ReadsWithin t anyone_cost x y → ReadsWithin t proof_cost x y
anyone_less t x y read = less_read t anyone_cost proof_cost x y (λ (m : Most). omega arith) read

-- no challenge is pending that was found
pub none_found : (lanes : List Held) (lane peer number : ℕ) (p : Pending) → Some p ≡ challenge_of (state_at lanes lane).challenges.challenges peer number → IsUnchallenged (state_at lanes lane) peer → ⊥
none_found lanes lane peer number p found none = some_is_some p (found ∙ none number)
  where
    some_is_some : (p : Pending) → Some p ≡ None → ⊥
    some_is_some p e = cc

-- ---- what is read of the table is read of the world's

pub in_world : (r : Register) (b : Bool) (lanes : List Held) (t : Table) (cost : Most → ℕ) (x y : ℕ) → ReadsWithin t cost x y → ReadsWithin (world_of r b lanes t).table cost x y
in_world r b lanes t cost x y read = subst (λ (u : Table). ReadsWithin u cost x y) (sym (table_of_world r b lanes t)) read

pub stranger_here : (r : Register) (b : Bool) (lanes : List Held) (t : Table) (e : Event) → e.lane < length lanes → IsStranger (lane_of (world_of r b lanes t) e.lane) e.what → IsStranger (state_at lanes e.lane) e.what
stranger_here r b lanes t e h is = subst (λ (s : LaneState). IsStranger s e.what) (lane_here r b lanes t e.lane (record { publisher = 0; state = fresh false }) h) is

-- ---- runs

most_joined : (most : Most) (w : World) (ts us : List Turn) → HaveAtMost most w (ts ++ us) → HaveAtMost most w ts × HaveAtMost most (last w ts) us
most_joined most w [] us have = (tt, have)
most_joined most w (t ∷ ts) us have =
    let rest = most_joined most t.after ts us have.1 in
    ((have.0, rest.0), rest.1)

one_more : (n m k l c : ℕ) → m ≤ n + l * c → k ≤ m + c → k ≤ n + suc l * c
one_more n m k l c before here = omega (arith, before, here, suc-mul l c)

one_longer : (ts : List Turn) (t : Turn) → length (ts ++ (t ∷ [])) ≡ suc (length ts)
one_longer ts t = omega (arith, length-append ts (t ∷ []))

pub run_reads : (w mid new : World) (es : List Event) (os : List Outcome) (e : Event) (o : Outcome) (n m k : ℕ) → HasRunReads w es os mid n m → HasStep mid e o new → ReadsWithin mid.table proof_cost m k
    → HasRunReads w (es ++ (e ∷ [])) (os ++ (o ∷ [])) new n k
run_reads w mid new es os e o n m k run s read =
    let ts = run.0 in
    let us : List Turn = s.0 ∷ [] in
    let longer = one_longer ts s.0 in (
      ts ++ us,
      run_joined w ts us run.1 (subst (λ v. IsRun v us) (sym run.4) (s.1, tt)),
      map-append (λ (t : Turn). t.event) ts us ∙ (λ i. run.2 i ++ (s.2 i ∷ [])),
      map-append (λ (t : Turn). t.outcome) ts us ∙ (λ i. run.3 i ++ (s.3 i ∷ [])),
      last_joined w ts us ∙ s.4,
      λ most have.
          let both = most_joined most w ts us have in
          let before = run.5 most both.0 in
          let here = read most (subst (λ (v : World). HasAtMost v.table most) run.4 both.1.0) in
          subst (λ (l : ℕ). k ≤ n + l * proof_cost most) (sym longer) (one_more n m k (length ts) (proof_cost most) before here),
    )
