-- One more place is kept.
use Rattle.std.proofs.Common.{◌≡◌, List, [], ◌∷◌, ◌++◌, if◌then◌else◌, Bool, true, false, cond, ◌||◌, not, refl, sym, ap, subst, ◌∙◌}
use Rattle.std.specs.BTreeSet.{BTreeSet, contains, Updates}
use Rattle.hdl_value.specs.Place.{Place, same_place}
use Rattle.hdl_value.specs.Refs.{place_of}
use Rattle.hdl_value.specs.declared.admin.Reference.{Reference}
use Rattle.hdl_reach.specs.Reach.{is_among}
use Rattle.hdl_reach.specs.Seen.{places, with_place, PlaceKey, place_at, key_cmp}
use Rattle.hdl_reach.proofs.Members.{same_laws, among_append}
use Rattle.hdl_reach.proofs.Growth.{places_more}
use Rattle.hdl_export.specs.declared.cover.Cover.{Cover}
use Rattle.hdl_export.specs.Covers.{places_in, HasKeys, AreKept}

by_either : (a b : Bool) → cond a true b ≡ (b || (a || false))
by_either true true = refl
by_either true false = refl
by_either false true = refl
by_either false false = refl

key_more : (old new : BTreeSet PlaceKey) (k : PlaceKey) (seen : List Place) → Updates key_cmp old new k true → HasKeys old seen → HasKeys new (seen ++ place_at k ∷ [])
key_more old new k seen updates kept q =
    updates.0 q
    ∙ ap (λ b. cond b true (contains key_cmp old q)) (same_laws.symm (place_at k) (place_at q))
    ∙ ap (λ b. cond (same_place (place_at q) (place_at k)) true b) (kept q)
    ∙ by_either (same_place (place_at q) (place_at k)) (is_among (place_at q) seen)
    ∙ sym (among_append seen (place_at k ∷ []) (place_at q))

pub absent_key : (b c : Bool) → b ≡ not c → b ≡ true → c ≡ false
absent_key b true is new = absurd (let no : true ≡ false = sym new ∙ is in cc)
absent_key b false is new = refl

-- what a call made of a cover: one more, unless it was there
abbrev pub Adds : Cover → Cover → Reference → Type 0
Adds old new one = (places_in new ≡ with_place (places_in old) (place_of one)) × AreKept new

pub adds_new : (old new : Cover) (one : Reference) (k : PlaceKey) → AreKept old → place_at k ≡ place_of one → contains key_cmp old.keys k ≡ false → Updates key_cmp old.keys new.keys k true → new.references.items ≡ old.references.items ++ one ∷ [] → Adds old new one
adds_new old new one k kept is absent updates pushed =
    let seen = places_in old in
    let p = place_of one in
    let out : is_among p seen ≡ false = subst (λ q. is_among q seen ≡ false) is (sym (kept k) ∙ absent) in
    let now : places_in new ≡ seen ++ p ∷ [] = ap places pushed ∙ places_more old.references.items one in
    let more : HasKeys new.keys (seen ++ p ∷ []) = subst (λ q. HasKeys new.keys (seen ++ q ∷ [])) is (key_more old.keys new.keys k seen updates kept) in (
      now ∙ sym (ap (λ b. if b then seen else seen ++ p ∷ []) out),
      subst (HasKeys new.keys) (sym now) more,
    )
