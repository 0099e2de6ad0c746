-- A quiet run in which C is a cover, restricted, is a run of the restricted world.
use Rattle.std.proofs.Common.{◌≡◌, ℕ, List, [], ◌∷◌, ◌++◌, Bool, true, false, cond, not, ◌&&◌, ◌||◌, ◌==◌, inl, inr, Option, Some, None, map, filter, refl, sym, ap, ◌∙◌, subst, IsTrue, IsFalse, true≢false, unwrap_or}
use Rattle.std.proofs.lemmas.Bool.{eqb-true}
use Rattle.std.specs.Ordering.{nat_cmp, eq_by_cmp}
use Rattle.std.specs.Cmp.{nat_cmp_total}
use Rattle.std.specs.FinMap as map
use Rattle.std.specs.FinMap.{nat_cmp-IsAntisymmetric}
use Rattle.std.specs.Str.{bytes_eq}
use Rattle.std.specs.Prelude.{find}
use Rattle.std.specs.Option.{option_map, option_map_or}
use Rattle.hdl_auth.specs.declared.algorithm.Algorithm.{Algorithm}
use Rattle.hdl_auth.specs.declared.algorithm.Algorithm.TheVariants.{Sha1}
use Rattle.hdl_value.specs.Place.{Place}
use Rattle.hdl_value.specs.declared.value.Value.{Value}
use Rattle.hdl_value.specs.declared.wire.Wire.TheVariants.{Profile}
use Rattle.std.proofs.lemmas.Bool.{eq-eqb}
use Rattle.hdl_value.proofs.Places.{tied}
use Rattle.hdl_rows.specs.Table.{Table}
use Rattle.hdl_tenants.specs.Register.{Hosting, SiteInfo, root, hosts_among, algorithm_among, site_among}
use Rattle.hdl_ops.specs.Decisions.{told_by}
use Rattle.hdl_ops.specs.Tables.{apply_if}
use Rattle.hdl_laws.specs.Lanes.{LaneState, fresh}
use Rattle.hdl_laws.specs.Worlds.{World, Site, owner, hosts, algorithms, lane_of, layout, lane_profile}
use Rattle.hdl_laws.specs.Tasks.{IsTask}
use Rattle.hdl_laws.specs.Effects.{Does}
use Rattle.hdl_laws.specs.Steps.{Turn, moment_of, after_effect, IsAnswerFor, IsAnswer, IsBusy, IsStep}
use Rattle.hdl_laws.specs.Runs.{is_busy, IsRun, last, IsRunWithoutBusy}
use Rattle.hdl_laws.specs.Isolation.{Agrees, IsClosed, EachCovered, values_written, own_writes, IsQuiet, is_owned_by, owns, is_mine, restrict, restrict_site, restrict_table, is_turn_of, turns_of}
use Rattle.hdl_laws.proofs.Maps.{get-retained}
use Rattle.hdl_laws.proofs.Writes.{restrict-apply_if, restrict_same, restrict_agrees, closed_after, closed_agrees}
use Rattle.hdl_laws.proofs.Steps.{does_agrees, does_change, does_calm}

-- ---- the restricted site

owner_mine : (o : Option ℕ) (u : ℕ) → IsTrue (is_owned_by o u) → o ≡ Some u
owner_mine None u e = absurd (true≢false (sym e))
owner_mine (Some v) u e = ap Some (eqb-true v u e)

owner_restricted : (s : Site) (u lane : ℕ) → IsTrue (owns s u lane) → owner (restrict_site s u) lane ≡ Some u
owner_restricted s u lane e =
    get-retained nat_cmp-IsAntisymmetric s.owners (owns s u) lane ∙ ap (λ b. cond b (owner s lane) None) e ∙ owner_mine (owner s lane) u e

hosts_filtered : (hs : List Hosting) (u : ℕ) (p : List ℕ) → hosts_among (filter (λ h. h.publisher == u) hs) u p ≡ hosts_among hs u p
hosts_filtered [] u p = refl
hosts_filtered (h ∷ hs) u p = pick (h.publisher == u) refl (hosts_filtered hs u p)
  where
    pick : (b : Bool) → h.publisher == u ≡ b → hosts_among (filter (λ h. h.publisher == u) hs) u p ≡ hosts_among hs u p
        → hosts_among (cond b (h ∷ filter (λ h. h.publisher == u) hs) (filter (λ h. h.publisher == u) hs)) u p ≡ ((b && bytes_eq p h.prefix) || hosts_among hs u p)
    pick true e rest = λ i. (e i && bytes_eq p h.prefix) || rest i
    pick false e rest = rest

hosts_restricted : (s : Site) (u : ℕ) → hosts (restrict_site s u) u ≡ hosts s u
hosts_restricted s u = λ i p. hosts_filtered s.hostings u p i

algorithms_filtered : (hs : List Hosting) (u : ℕ) (p : List ℕ) → algorithm_among (filter (λ h. h.publisher == u) hs) u p ≡ algorithm_among hs u p
algorithms_filtered [] u p = refl
algorithms_filtered (h ∷ hs) u p = pick (h.publisher == u) refl (algorithms_filtered hs u p)
  where
    hash_of : Option Hosting → Algorithm
    hash_of o = option_map_or (λ x. x.algorithm) o Sha1

    found : List Hosting → Option Hosting
    found xs = find (λ x. (x.publisher == u) && bytes_eq p x.prefix) xs

    pick : (b : Bool) → h.publisher == u ≡ b → algorithm_among (filter (λ h. h.publisher == u) hs) u p ≡ algorithm_among hs u p
        → algorithm_among (cond b (h ∷ filter (λ h. h.publisher == u) hs) (filter (λ h. h.publisher == u) hs)) u p ≡ hash_of (cond (b && bytes_eq p h.prefix) (Some h) (found hs))
    pick true e rest = either (bytes_eq p h.prefix) refl
      where
        either : (c : Bool) → bytes_eq p h.prefix ≡ c → hash_of (found (h ∷ filter (λ h. h.publisher == u) hs)) ≡ hash_of (cond c (Some h) (found hs))
        either true f = λ i. hash_of (cond (e i && f i) (Some h) (found (filter (λ h. h.publisher == u) hs)))
        either false f = (λ i. hash_of (cond (e i && f i) (Some h) (found (filter (λ h. h.publisher == u) hs)))) ∙ rest
    pick false e rest = rest

algorithms_restricted : (s : Site) (u : ℕ) → algorithms (restrict_site s u) u ≡ algorithms s u
algorithms_restricted s u = λ i p. algorithms_filtered s.hostings u p i

layout_restricted : (s : Site) (u : ℕ) → layout (restrict_site s u) u ≡ layout s u
layout_restricted s u =
    ap (λ o. unwrap_or o Profile) (get-retained nat_cmp-IsAntisymmetric s.layouts (λ other. other == u) u ∙ ap (λ b. cond b (map.get s.layouts u) None) (eq-eqb u u refl))

site_filtered : (sites : List SiteInfo) (u : ℕ) → site_among (filter (λ line. line.publisher == u) sites) u ≡ site_among sites u
site_filtered [] u = refl
site_filtered (line ∷ sites) u = pick (line.publisher == u) refl (site_filtered sites u)
  where
    octets_of : Option SiteInfo → Option (List ℕ)
    octets_of o = option_map (λ (x : SiteInfo). x.octets) o

    found : List SiteInfo → Option SiteInfo
    found xs = find (λ x. x.publisher == u) xs

    pick : (b : Bool) → line.publisher == u ≡ b → site_among (filter (λ x. x.publisher == u) sites) u ≡ site_among sites u
        → site_among (cond b (line ∷ filter (λ x. x.publisher == u) sites) (filter (λ x. x.publisher == u) sites)) u ≡ octets_of (cond b (Some line) (found sites))
    pick true e rest = λ i. octets_of (cond (e i) (Some line) (found (filter (λ x. x.publisher == u) sites)))
    pick false e rest = rest

speech_restricted : (s : Site) (u : ℕ) → lane_profile (restrict_site s u) u ≡ lane_profile s u
speech_restricted s u = λ i. record { wire = layout_restricted s u i; site = told_by (layout_restricted s u i) (site_filtered s.sites u i); takes_changes = s.takes_changes }

-- ---- lanes

lane_restricted : (w : World) (u : ℕ) (C : List Place) (lane : ℕ) → IsTrue (owns w.site u lane) → lane_of (restrict w u C) lane ≡ lane_of w lane
lane_restricted w u C lane e =
    ap (λ o. unwrap_or o (fresh false)) (get-retained nat_cmp-IsAntisymmetric w.lanes (owns w.site u) lane ∙ ap (λ b. cond b (map.get w.lanes lane) None) e)

number_tied : (k l : ℕ) → eq_by_cmp nat_cmp k l ≡ true → k ≡ l
number_tied k l e = nat_cmp-IsAntisymmetric k l (tied _ e)

kept_insert : {X : Type 0} (b c : Bool) (x y : Option X) → (b ≡ true → c ≡ true) → cond c (cond b x y) None ≡ cond b x (cond c y None)
kept_insert true true x y f = refl
kept_insert true false x y f = absurd (true≢false (sym (f refl)))
kept_insert false c x y f = refl

lost_insert : {X : Type 0} (b c : Bool) (x y : Option X) → (b ≡ true → c ≡ false) → cond c (cond b x y) None ≡ cond c y None
lost_insert true true x y f = absurd (true≢false (f refl))
lost_insert true false x y f = refl
lost_insert false c x y f = refl

module _ (m : map.FinMap nat_cmp LaneState) (keep : ℕ → Bool) (lane : ℕ) (s : LaneState) where
  lanes_kept : IsTrue (keep lane) → map.retain_keys (map.insert m lane s) keep ≡ map.insert (map.retain_keys m keep) lane s
  lanes_kept e = map.same_map nat_cmp_total nat_cmp-IsAntisymmetric _ _ (λ q.
      get-retained nat_cmp-IsAntisymmetric (map.insert m lane s) keep q
      ∙ ap (λ x. cond (keep q) x None) (map.get-insert nat_cmp_total m lane s q)
      ∙ kept_insert (eq_by_cmp nat_cmp q lane) (keep q) (Some s) (map.get m q) (λ is. ap keep (number_tied q lane is) ∙ e)
      ∙ ap (cond (eq_by_cmp nat_cmp q lane) (Some s)) (sym (get-retained nat_cmp-IsAntisymmetric m keep q))
      ∙ sym (map.get-insert nat_cmp_total (map.retain_keys m keep) lane s q))

  lanes_lost : IsFalse (keep lane) → map.retain_keys (map.insert m lane s) keep ≡ map.retain_keys m keep
  lanes_lost e = map.same_map nat_cmp_total nat_cmp-IsAntisymmetric _ _ (λ q.
      get-retained nat_cmp-IsAntisymmetric (map.insert m lane s) keep q
      ∙ ap (λ x. cond (keep q) x None) (map.get-insert nat_cmp_total m lane s q)
      ∙ lost_insert (eq_by_cmp nat_cmp q lane) (keep q) (Some s) (map.get m q) (λ is. ap keep (number_tied q lane is) ∙ e)
      ∙ sym (get-retained nat_cmp-IsAntisymmetric m keep q))

-- ---- the site stays

pub site_stays : (w : World) (t : Turn) → IsStep w t → t.after.site ≡ w.site
site_stays w t (inl a) = by_owner (owner w.site t.event.lane) a
  where
    by_owner : (o : Option ℕ) → IsAnswerFor w o t → t.after.site ≡ w.site
    by_owner None e = ap (λ (z : Turn). z.after.site) e
    by_owner (Some u) e = ap (λ (z : Turn). z.after.site) e.4
site_stays w t (inr b) = ap (λ (z : Turn). z.after.site) b.busy

pub answer_calm : (w : World) (t : Turn) → IsAnswer w t → is_busy t.outcome ≡ false
answer_calm w t a = by_owner (owner w.site t.event.lane) a
  where
    by_owner : (o : Option ℕ) → IsAnswerFor w o t → is_busy t.outcome ≡ false
    by_owner None e = ap (λ (z : Turn). is_busy z.outcome) e
    by_owner (Some u) e = ap (λ (z : Turn). is_busy z.outcome) e.4 ∙ does_calm (hosts w.site u) (algorithms w.site u) w.table e.1 e.0 e.3

-- ---- one turn

-- the turn, with what u has of the world after it
abbrev pub restrict_turn : ℕ → List Place → Turn → Turn
restrict_turn u C t = record { event = t.event; outcome = t.outcome; change = t.change; after = restrict t.after u C }

module _ (u : ℕ) (C : List Place) where
  -- an answer to u is one in the restricted world
  answer_for : (w : World) (t : Turn) → IsFalse (hosts w.site u root) → IsClosed (hosts w.site u) C w.table → IsTrue (is_mine w.site u t.event) → IsAnswerFor w (Some u) t → IsAnswerFor (restrict w u C) (Some u) (restrict_turn u C t)
  answer_for w t rootless closed mine a =
      let eff = a.0 in
      let hosted = hosts w.site u in
      let task : IsTask (lane_profile (restrict_site w.site u) u) (lane_of (restrict w u C) t.event.lane) t.event.what a.1 =
      subst (λ l. IsTask l (lane_of (restrict w u C) t.event.lane) t.event.what a.1) (sym (speech_restricted w.site u))
      (subst (λ s. IsTask (lane_profile w.site u) s t.event.what a.1) (sym (lane_restricted w u C t.event.lane mine)) a.2) in
      let does : Does (hosts (restrict_site w.site u) u) (algorithms (restrict_site w.site u) u) (restrict_table hosted C w.table) a.1 eff =
      subst (λ g. Does (hosts (restrict_site w.site u) u) g (restrict_table hosted C w.table) a.1 eff) (sym (algorithms_restricted w.site u))
      (subst (λ f. Does f (algorithms w.site u) (restrict_table hosted C w.table) a.1 eff) (sym (hosts_restricted w.site u))
      (does_agrees hosted (algorithms w.site u) C w.table (restrict_table hosted C w.table) (restrict_agrees hosted C w.table) closed rootless a.1 eff a.3)) in
      let table : restrict_table hosted C (apply_if w.table (moment_of t.event.what) eff.change) ≡ apply_if (restrict_table hosted C w.table) (moment_of t.event.what) eff.change =
      restrict-apply_if hosted C w.table (moment_of t.event.what) eff.change (does_change hosted w.table (algorithms w.site u) a.1 eff a.3) in
      let lanes : map.retain_keys (map.insert w.lanes t.event.lane eff.state) (owns w.site u) ≡ map.insert (map.retain_keys w.lanes (owns w.site u)) t.event.lane eff.state =
      lanes_kept w.lanes (owns w.site u) t.event.lane eff.state mine in
      let after : restrict (after_effect w t.event eff) u C ≡ after_effect (restrict w u C) t.event eff =
      λ i. record { site = restrict_site w.site u; table = table i; lanes = lanes i } in
      (eff, a.1, task, does, ap (restrict_turn u C) a.4 ∙ (λ i. record { event = t.event; outcome = eff.outcome; change = eff.change; after = after i }))

  answer_restricted : (w : World) (t : Turn) → IsFalse (hosts w.site u root) → IsClosed (hosts w.site u) C w.table → IsTrue (is_mine w.site u t.event) → IsAnswer w t → IsAnswer (restrict w u C) (restrict_turn u C t)
  answer_restricted w t rootless closed mine a =
      subst (λ o. IsAnswerFor (restrict w u C) o (restrict_turn u C t)) (sym (owner_restricted w.site u t.event.lane mine))
      (answer_for w t rootless closed mine (subst (λ o. IsAnswerFor w o t) (owner_mine (owner w.site t.event.lane) u mine) a))

  abbrev IsQuietTurn : World → Turn → Type 0
  IsQuietTurn w t = IsFalse (is_mine w.site u t.event) → Agrees (hosts w.site u) C w.table t.after.table

  -- a foreign answer leaves the restricted world
  foreign_restricted : (w : World) (t : Turn) → IsFalse (is_mine w.site u t.event) → IsQuietTurn w t → IsAnswer w t → restrict t.after u C ≡ restrict w u C
  foreign_restricted w t theirs quiet a = by_owner (owner w.site t.event.lane) a
    where
      hosted : List ℕ → Bool
      hosted = hosts w.site u

      by_owner : (o : Option ℕ) → IsAnswerFor w o t → restrict t.after u C ≡ restrict w u C
      by_owner None e = ap (λ (z : Turn). restrict z.after u C) e
      by_owner (Some v) e =
          let tables : restrict_table hosted C w.table ≡ restrict_table hosted C (apply_if w.table (moment_of t.event.what) e.0.change) =
          restrict_same hosted C w.table _ (subst (λ (z : Table). Agrees hosted C w.table z) (ap (λ (z : Turn). z.after.table) e.4) (quiet theirs)) in
          let lanes = lanes_lost w.lanes (owns w.site u) t.event.lane e.0.state theirs in
          ap (λ (z : Turn). restrict z.after u C) e.4 ∙ (λ i. record { site = restrict_site w.site u; table = sym tables i; lanes = lanes i })

  -- ---- the cover stays closed

  covered_left : (vs ws : List Value) → EachCovered C (vs ++ ws) → EachCovered C vs
  covered_left [] ws c = tt
  covered_left (v ∷ vs) ws c = (c.0, covered_left vs ws c.1)

  covered_right : (vs ws : List Value) → EachCovered C (vs ++ ws) → EachCovered C ws
  covered_right [] ws c = c
  covered_right (v ∷ vs) ws c = covered_right vs ws c.1

  if_mine : (b : Bool) (vs : List Value) → IsTrue b → EachCovered C (cond b vs []) → EachCovered C vs
  if_mine true vs e c = c
  if_mine false vs e c = absurd (true≢false (sym e))

  closed_step : (w : World) (t : Turn) → IsClosed (hosts w.site u) C w.table → EachCovered C (cond (is_mine w.site u t.event) (values_written t.change) []) → IsQuietTurn w t → IsStep w t → IsClosed (hosts w.site u) C t.after.table
  closed_step w t closed held quiet (inr b) = subst (λ z. IsClosed (hosts w.site u) C z) (sym (ap (λ (z : Turn). z.after.table) b.busy)) closed
  closed_step w t closed held quiet (inl a) = pick (is_mine w.site u t.event) refl
    where
      mine_step : IsTrue (is_mine w.site u t.event) → (o : Option ℕ) → IsAnswerFor w o t → IsClosed (hosts w.site u) C t.after.table
      mine_step mine None e = subst (λ z. IsClosed (hosts w.site u) C z) (sym (ap (λ (z : Turn). z.after.table) e)) closed
      mine_step mine (Some v) e =
          subst (λ z. IsClosed (hosts w.site u) C z) (sym (ap (λ (z : Turn). z.after.table) e.4))
          (closed_after (hosts w.site u) C w.table (moment_of t.event.what) e.0.change
          (subst (λ c. EachCovered C (values_written c)) (ap (λ (z : Turn). z.change) e.4) (if_mine _ (values_written t.change) mine held)) closed)

      pick : (b : Bool) → is_mine w.site u t.event ≡ b → IsClosed (hosts w.site u) C t.after.table
      pick true e = mine_step e (owner w.site t.event.lane) a
      pick false e = closed_agrees (hosts w.site u) C w.table t.after.table (quiet e) closed

  -- ---- whole runs

  -- the facts of a run that the induction carries
  pub record Facts (w : World) (ts : List Turn) : Type 0 where
    pub run : IsRun w ts
    pub closed : IsClosed (hosts w.site u) C w.table
    pub written : EachCovered C (own_writes w.site u ts)
    pub quiet : IsQuiet w.site u C w ts

  pub facts_after : (w : World) (t : Turn) (ts : List Turn) → Facts w (t ∷ ts) → Facts t.after ts
  facts_after w t ts f =
      let e = sym (site_stays w t f.run.0) in
      record {
        run = f.run.1;
        closed = subst (λ s. IsClosed (hosts s u) C t.after.table) e (closed_step w t f.closed (covered_left _ (own_writes w.site u ts) f.written) f.quiet.0 f.run.0);
        written = subst (λ s. EachCovered C (own_writes s u ts)) e (covered_right (cond (is_mine w.site u t.event) (values_written t.change) []) _ f.written);
        quiet = subst (λ s. IsQuiet s u C t.after ts) e f.quiet.1;
      }

  -- a busy turn has no place among u's, and leaves the world
  busy_turn : (w : World) (t : Turn) → IsBusy w t → (is_busy t.outcome ≡ true) × (t.after ≡ w)
  busy_turn w t b = (ap (λ (z : Turn). is_busy z.outcome) b.busy, ap (λ (z : Turn). z.after) b.busy)

  not_kept : (a b : Bool) → b ≡ true → (a && not b) ≡ false
  not_kept true b e = ap not e
  not_kept false b e = refl

  -- the restricted turns are a run of the restricted world, to the restricted last world
  abbrev RunsTo : World → List Turn → World → Type 0
  RunsTo v ts end = IsRunWithoutBusy v (map (restrict_turn u C) ts) × (last v (map (restrict_turn u C) ts) ≡ end)

  abbrev Restricted : World → List Turn → Type 0
  Restricted w ts = RunsTo (restrict w u C) (turns_of w.site u ts) (restrict (last w ts) u C)

  same_site : (w : World) (t : Turn) (ts : List Turn) → t.after.site ≡ w.site → Restricted t.after ts → RunsTo (restrict t.after u C) (turns_of w.site u ts) (restrict (last t.after ts) u C)
  same_site w t ts site r = subst (λ s. RunsTo (restrict t.after u C) (turns_of s u ts) (restrict (last t.after ts) u C)) site r

  skipped : (w : World) (t : Turn) (ts : List Turn) (b : Bool) → b ≡ false → restrict t.after u C ≡ restrict w u C → Restricted t.after ts → t.after.site ≡ w.site
      → RunsTo (restrict w u C) (cond b (t ∷ turns_of w.site u ts) (turns_of w.site u ts)) (restrict (last t.after ts) u C)
  skipped w t ts true e same r site = absurd (true≢false e)
  skipped w t ts false e same r site = subst (λ v. RunsTo v (turns_of w.site u ts) (restrict (last t.after ts) u C)) same (same_site w t ts site r)

  taken_turn : (w : World) (t : Turn) (ts : List Turn) (b : Bool) → b ≡ true → IsAnswer (restrict w u C) (restrict_turn u C t) → Restricted t.after ts → t.after.site ≡ w.site
      → RunsTo (restrict w u C) (cond b (t ∷ turns_of w.site u ts) (turns_of w.site u ts)) (restrict (last t.after ts) u C)
  taken_turn w t ts true e a r site =
      let rest = same_site w t ts site r in
      ((a, rest.0), rest.1)
  taken_turn w t ts false e a r site = absurd (true≢false (sym e))

  pub restricted_by : (w : World) (ts : List Turn) → IsFalse (hosts w.site u root) → Facts w ts → Restricted w ts
  restricted_by w [] rootless f = (tt, refl)
  restricted_by w (t ∷ ts) rootless f = by_step f.run.0 (restricted_by t.after ts (subst (λ s. IsFalse (hosts s u root)) (sym (site_stays w t f.run.0)) rootless) (facts_after w t ts f))
    where
      site : t.after.site ≡ w.site
      site = site_stays w t f.run.0

      by_step : IsStep w t → Restricted t.after ts → RunsTo (restrict w u C) (cond (is_turn_of w.site u t) (t ∷ turns_of w.site u ts) (turns_of w.site u ts)) (restrict (last t.after ts) u C)
      by_step (inr b) r = skipped w t ts _ (not_kept (is_mine w.site u t.event) _ (busy_turn w t b).0) (ap (λ z. restrict z u C) (busy_turn w t b).1) r site
      by_step (inl a) r = pick (is_mine w.site u t.event) refl (is_busy t.outcome) refl
        where
          pick : (m : Bool) → is_mine w.site u t.event ≡ m → (b : Bool) → is_busy t.outcome ≡ b → RunsTo (restrict w u C) (cond (is_turn_of w.site u t) (t ∷ turns_of w.site u ts) (turns_of w.site u ts)) (restrict (last t.after ts) u C)
          pick true e false n = taken_turn w t ts (is_turn_of w.site u t) (λ i. e i && not (n i)) (answer_restricted w t rootless f.closed e a) r site
          pick true e true n = absurd (true≢false (sym n ∙ answer_calm w t a))
          pick false e b n = skipped w t ts (is_turn_of w.site u t) (λ i. e i && not (is_busy t.outcome)) (foreign_restricted w t e f.quiet.0 a) r site
