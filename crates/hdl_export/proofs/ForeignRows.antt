-- The rows at places, one place after another.
use Rattle.std.proofs.Common.{◌≡◌, ℕ, ◌+◌, ◌<◌, length, take, get_or, true, false, Some, List, [], ◌∷◌, ◌++◌, append-nil, append_assoc, map, refl, sym, ap, subst, ◌∙◌}
use Rattle.std.specs.Prelude.{Result, Ok, Err, OnOk}
use Rattle.std.specs.List.{AllByRecursion}
use Rattle.std.proofs.lemmas.List.{map-append}
use Rattle.std.proofs.lemmas.Grind.{flat_map-append}
use Rattle.hdl_value.specs.Place.{Place}
use Rattle.hdl_value.specs.Refs.{place_of}
use Rattle.hdl_value.specs.declared.admin.Reference.{Reference}
use Rattle.hdl_name.specs.Name.{prefix}
use Rattle.hdl_value.specs.declared.value.Value.{Value}
use Rattle.hdl_rows.specs.Table.{Table, at}
use Rattle.hdl_tenants.specs.Register.{Row}
use Rattle.hdl_reach.specs.Seen.{places}
use Rattle.hdl_reach.proofs.Growth.{places_next}
use Rattle.hdl_export.specs.Lines.{with_line_end, text_of, value_line}
use Rattle.hdl_export.specs.Rows.{is_among, foreign_at, foreign_rows}
use Rattle.hdl_export.specs.Laws.{IsWritableRow}
use Rattle.hdl_export.proofs.Feeds.{all_joined}

pub on_ok : {X E : Type 0} (r : Result X E) (P Q : Type 0) → (P → Q) → OnOk r P → OnOk r Q
on_ok (Ok x) P Q f h = f h
on_ok (Err e) P Q f h = h

module _ (prefixes : List (List ℕ)) (t : Table) where
  pub none_at : (p : Place) → is_among (prefix p.handle) prefixes ≡ true → foreign_at prefixes t p ≡ []
  none_at p own = rw own refl

  pub one_at : (p : Place) (v : Value) → is_among (prefix p.handle) prefixes ≡ false → at t p ≡ Some v → foreign_at prefixes t p ≡ (p.handle, v) ∷ []
  one_at p v foreign there = rw (foreign, there) refl

  -- of a place whose prefix is one of these nothing is put
  pub puts_none : (p : Place) (items : List ℕ) → is_among (prefix p.handle) prefixes ≡ true → items ≡ items ++ text_of (map value_line (foreign_at prefixes t p))
  puts_none p items own = rw (none_at p own) (sym (append-nil items))

  pub none_writable : (p : Place) → is_among (prefix p.handle) prefixes ≡ true → AllByRecursion IsWritableRow (foreign_at prefixes t p)
  none_writable p own = rw (none_at p own) tt

  pub puts_one : (p : Place) (v : Value) (handle old new : List ℕ) → handle ≡ p.handle → is_among (prefix p.handle) prefixes ≡ false → at t p ≡ Some v → new ≡ old ++ with_line_end (value_line (handle, v))
      → new ≡ old ++ text_of (map value_line (foreign_at prefixes t p))
  puts_one p v handle old new same foreign there put =
      rw (one_at p v foreign there) (put ∙ ap (λ (octets : List ℕ). old ++ octets) (ap (λ (h : List ℕ). with_line_end (value_line (h, v))) same ∙ sym (append-nil (with_line_end (value_line (p.handle, v))))))

  pub one_writable : (p : Place) (v : Value) (handle : List ℕ) → handle ≡ p.handle → is_among (prefix p.handle) prefixes ≡ false → at t p ≡ Some v → IsWritableRow (handle, v)
      → AllByRecursion IsWritableRow (foreign_at prefixes t p)
  one_writable p v handle same foreign there w = rw (one_at p v foreign there) (subst (λ (h : List ℕ). IsWritableRow (h, v)) same w, tt)

  rows_next : (rs : List Reference) (i : ℕ) (r : Reference) → i < length rs → r ≡ get_or rs i r
      → foreign_rows prefixes t (places (take (i + 1) rs)) ≡ foreign_rows prefixes t (places (take i rs)) ++ foreign_at prefixes t (place_of r)
  rows_next rs i r low is =
      ap (foreign_rows prefixes t) (places_next rs i r low is) ∙ flat_map-append (foreign_at prefixes t) (places (take i rs)) (place_of r ∷ [])
      ∙ ap (λ (more : List Row). foreign_rows prefixes t (places (take i rs)) ++ more) (append-nil (foreign_at prefixes t (place_of r)))

  pub put_next : (rs : List Reference) (i : ℕ) (r : Reference) (start old new : List ℕ) → i < length rs → r ≡ get_or rs i r → old ≡ start ++ text_of (map value_line (foreign_rows prefixes t (places (take i rs))))
      → new ≡ old ++ text_of (map value_line (foreign_at prefixes t (place_of r))) → new ≡ start ++ text_of (map value_line (foreign_rows prefixes t (places (take (i + 1) rs))))
  put_next rs i r start old new low is before put =
      let done = foreign_rows prefixes t (places (take i rs)) in
      let more = foreign_at prefixes t (place_of r) in
      put ∙ ap (λ (octets : List ℕ). octets ++ text_of (map value_line more)) before ∙ append_assoc start (text_of (map value_line done)) (text_of (map value_line more))
      ∙ ap (λ (octets : List ℕ). start ++ octets) (sym (flat_map-append with_line_end (map value_line done) (map value_line more))
      ∙ ap text_of (sym (map-append {A = Row} {B = List ℕ} value_line done more)) ∙ ap (λ (rows : List Row). text_of (map value_line rows)) (sym (rows_next rs i r low is)))

  pub writable_next : (rs : List Reference) (i : ℕ) (r : Reference) → i < length rs → r ≡ get_or rs i r → AllByRecursion IsWritableRow (foreign_rows prefixes t (places (take i rs)))
      → AllByRecursion IsWritableRow (foreign_at prefixes t (place_of r)) → AllByRecursion IsWritableRow (foreign_rows prefixes t (places (take (i + 1) rs)))
  writable_next rs i r low is before put =
      subst (AllByRecursion IsWritableRow) (sym (rows_next rs i r low is)) (all_joined IsWritableRow (foreign_rows prefixes t (places (take i rs))) (foreign_at prefixes t (place_of r)) before put)

pub same_rows : (ps qs : List (List ℕ)) (t u : Table) (rs ss : List Reference) → ps ≡ qs → t ≡ u → rs ≡ ss → foreign_rows ps t (places rs) ≡ foreign_rows qs u (places ss)
same_rows ps qs t u rs ss p q r = λ i. foreign_rows (p i) (q i) (places (r i))
