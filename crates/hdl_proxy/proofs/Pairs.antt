-- The pairs of a query, as strings and as their octets.
use Rattle.std.proofs.Common.{◌≡◌, ◌<◌, ◌+◌, ℕ, Bool, true, false, cond, ◌||◌, List, [], ◌∷◌, ◌++◌, Option, Some, None, String, string_bytes, bytes_eq, map, take, length, get_or, refl, sym, ap, subst, ◌∙◌, append_assoc, append-nil}
use Rattle.std.specs.List.{list_any, filter_map, cons_option}
use Rattle.std.specs.Borrow.{Bor}
use Rattle.std.specs.Global.{Global}
use Rattle.std.proofs.lemmas.List.{map-append, take_more}
use Rattle.std.proofs.lemmas.List.Elements.{filter_map-append}
use Rattle.form_urlencoded.specs.Form.{DecodesTo}
use Rattle.hdl_proxy.specs.Query.{meant, meant_pair, text_of, texts_of, has_pair, value_if, values_named}

-- ---- reading

pub pair_more : (got : List (String Global × String Global)) (pair : String Global × String Global) (name value : List ℕ) (left rest all : List (List ℕ × List ℕ)) → left ≡ (name, value) ∷ rest → DecodesTo name (string_bytes pair.0) → DecodesTo value (string_bytes pair.1) → texts_of got ++ map meant_pair left ≡ all → texts_of (got ++ pair ∷ []) ++ map meant_pair rest ≡ all
pair_more got pair name value left rest all e d f h =
    let same : text_of pair ≡ meant_pair (name, value) = ap (λ a. (a, string_bytes pair.1)) d.2 ∙ ap (λ b. (meant name, b)) f.2 in
    let start : texts_of got ++ (meant_pair (name, value) ∷ map meant_pair rest) ≡ all = subst (λ l. texts_of got ++ map meant_pair l ≡ all) e h in
    let joined : texts_of (got ++ pair ∷ []) ≡ texts_of got ++ (text_of pair ∷ []) = map-append text_of got (pair ∷ []) in
    ap (λ l. l ++ map meant_pair rest) joined
    ∙ append_assoc (texts_of got) (text_of pair ∷ []) (map meant_pair rest)
    ∙ ap (λ p. texts_of got ++ (p ∷ map meant_pair rest)) same
    ∙ start

-- ---- names

abbrev pub is_named : List ℕ → String Global × String Global → Bool
is_named name pair = bytes_eq (string_bytes pair.0) name

abbrev pub named_value : List ℕ → String Global × String Global → Option (List ℕ)
named_value name pair = value_if name (text_of pair)

any_texts : (name : List ℕ) (pairs : List (String Global × String Global)) → has_pair name (texts_of pairs) ≡ list_any (is_named name) pairs
any_texts name [] = refl
any_texts name (pair ∷ pairs) = ap (λ b. is_named name pair || b) (any_texts name pairs)

pub has_pair_is : (name : List ℕ) (pairs : List (String Global × String Global)) (b : Bool) → list_any (is_named name) pairs ≡ b → b ≡ has_pair name (texts_of pairs)
has_pair_is name pairs b e = sym (any_texts name pairs ∙ e)

pub values_texts : (name : List ℕ) (pairs : List (String Global × String Global)) → filter_map (named_value name) pairs ≡ values_named name (texts_of pairs)
values_texts name [] = refl
values_texts name (pair ∷ pairs) = ap (λ l. cons_option (named_value name pair) l) (values_texts name pairs)

-- ---- one more pair

filter_map_more : {X Y : Type 0} (h : X → Option Y) (xs : List X) (i : ℕ) (x : X) → i < length xs → x ≡ get_or xs i x → filter_map h (take (i + 1) xs) ≡ filter_map h (take i xs) ++ cons_option (h x) []
filter_map_more h xs i x l e =
    ap (λ ys. filter_map h ys) (take_more xs i x l)
    ∙ filter_map-append h (take i xs) (get_or xs i x ∷ [])
    ∙ ap (λ y. filter_map h (take i xs) ++ cons_option (h y) []) (sym e)

named_if : (name : List ℕ) (pair : String Global × String Global) (b : Bool) → is_named name pair ≡ b → named_value name pair ≡ cond b (Some (string_bytes pair.1)) None
named_if name pair b e = ap (λ (t : Bool). cond t (Some (string_bytes pair.1)) None) e

pub value_pushed : (name : List ℕ) (pairs : List (String Global × String Global)) (i : ℕ) (pair : String Global × String Global) (values : List (Bor (List ℕ))) (value : Bor (List ℕ)) → i < length pairs → pair ≡ get_or pairs i pair → is_named name pair ≡ true → value.now ≡ string_bytes pair.1 → map (λ v. v.now) values ≡ filter_map (named_value name) (take i pairs) → map (λ v. v.now) (values ++ value ∷ []) ≡ filter_map (named_value name) (take (i + 1) pairs)
value_pushed name pairs i pair values value l e named same h =
    let so_far : List (List ℕ) = filter_map (named_value name) (take i pairs) in
    map-append (λ (v : Bor (List ℕ)). v.now) values (value ∷ [])
    ∙ ap (λ (vs : List (List ℕ)). vs ++ (value.now ∷ [])) h
    ∙ ap (λ (v : List ℕ). so_far ++ (v ∷ [])) same
    ∙ sym (filter_map_more (named_value name) pairs i pair l e ∙ ap (λ (o : Option (List ℕ)). so_far ++ cons_option o []) (named_if name pair true named))

pub value_skipped : (name : List ℕ) (pairs : List (String Global × String Global)) (i : ℕ) (pair : String Global × String Global) (values : List (List ℕ)) → i < length pairs → pair ≡ get_or pairs i pair → is_named name pair ≡ false → values ≡ filter_map (named_value name) (take i pairs) → values ≡ filter_map (named_value name) (take (i + 1) pairs)
value_skipped name pairs i pair values l e named h =
    let so_far : List (List ℕ) = filter_map (named_value name) (take i pairs) in
    h ∙ sym (filter_map_more (named_value name) pairs i pair l e ∙ ap (λ (o : Option (List ℕ)). so_far ++ cons_option o []) (named_if name pair false named) ∙ append-nil so_far)

-- one more of a list that is mapped
pub map_more : {X Y : Type 0} (f : X → Y) (xs : List X) (i : ℕ) (x : X) → i < length xs → x ≡ get_or xs i x → map f (take (i + 1) xs) ≡ map f (take i xs) ++ f x ∷ []
map_more f xs i x l e =
    ap (λ ys. map f ys) (take_more xs i x l)
    ∙ map-append f (take i xs) (get_or xs i x ∷ [])
    ∙ ap (λ y. map f (take i xs) ++ f y ∷ []) (sym e)
