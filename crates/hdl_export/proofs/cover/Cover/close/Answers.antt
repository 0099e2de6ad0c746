use Rattle.std.proofs.Common.{◌≡◌, ◌<◌, ◌≤◌, List, length, rules, arith, refl, subst, ◌∙◌}
use Rattle.hdl_value.specs.Refs.{place_of}
use Rattle.hdl_value.specs.declared.admin.Reference.{Reference}
use Rattle.hdl_reach.specs.Reach.{lists}
use Rattle.hdl_reach.specs.Seen.{places, Extends}
use Rattle.hdl_reach.proofs.Members.{at_among}
use Rattle.hdl_reach.proofs.Searches.{goes_on, mapped_low, mapped_high, mapped_at}
use Rattle.hdl_export.specs.Covers.{places_in, IsLed}
use Rattle.hdl_export.proofs.Covered.{starts_at, onward_at, covers_each}
use Rattle.hdl_export.proofs.cover.Cover.close.Goals as goal

pub loop-next-init : goal.loop-next-init
loop-next-init g c = record {
  stays = refl;
  kept = c.requires.kept;
  searched = starts_at (g.R.Rows.content c.args.rows.now) (places_in c.args.self) c.requires.distinct;
}

pub returns-then-next-len-clause-grown : goal.returns-then-next-len-clause-grown
returns-then-next-len-clause-grown g c = covers_each (places_in c.args.self) (places_in c.loop-next.self) c.loop-next.invariant.searched.begun

pub returns-then-next-len-clause-onward : goal.returns-then-next-len-clause-onward
returns-then-next-len-clause-onward g c =
    let len : c.loop-next.self.references.len ≡ length c.loop-next.self.references.items = search rules in
    let all : length c.loop-next.self.references.items ≤ c.loop-next.next = omega arith in
    onward_at (g.R.Rows.content c.args.rows.now) (places_in c.args.self) (places_in c.loop-next.self) c.loop-next.next c.loop-next.invariant.searched (mapped_high place_of c.loop-next.self.references.items c.loop-next.next all)

pub returns-then-next-len-clause-led : goal.returns-then-next-len-clause-led
returns-then-next-len-clause-led g c = λ p here.
    at_among (IsLed (g.R.Rows.content c.args.rows.now) (places_in c.args.self)) (places_in c.loop-next.self) p c.loop-next.invariant.searched.reached here

pub loop-next-preserved : goal.loop-next-preserved
loop-next-preserved g c =
    let t = g.R.Rows.content c.args.rows.now in
    let seen = places_in c.loop-next.self in
    let new = places_in c.extend.new.self in
    let here = place_of c.index.result.now in
    let len : c.loop-next.self.references.len ≡ length c.loop-next.self.references.items = search rules in
    let short : c.loop-next.next < length c.loop-next.self.references.items = omega arith in
    let low = mapped_low place_of c.loop-next.self.references.items c.loop-next.next short in
    let is = mapped_at place_of c.loop-next.self.references.items c.loop-next.next c.index.result.now short c.index.ensures in
    let found = rw c.loop-next.invariant.stays at c.in_ok-more.ensures.found in
    let grown = subst (λ (rs : List Reference). Extends seen (places rs) new) c.deref.ensures.value c.in_ok-extend.ensures.extended in
    record {
      stays = c.list_at.ensures.unchanged ∙ c.loop-next.invariant.stays;
      kept = c.in_ok-extend.ensures.kept;
      searched = goes_on (lists t) (IsLed t (places_in c.args.self)) (places_in c.args.self) seen (places c.in_ok-more.more.items) new c.loop-next.next here (λ q there listed other wider onward. onward here q (there other wider onward) listed) c.loop-next.invariant.searched low is found grown;
    }
