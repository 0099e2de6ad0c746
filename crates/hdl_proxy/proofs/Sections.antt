-- What a page says of a value, and one section more.
use Rattle.std.proofs.Common.{◌≡◌, ◌==◌, ℕ, zero, suc, arith, ◌+◌, ◌<◌, ◌≤◌, Bool, false, List, [], ◌∷◌, ◌++◌, None, drop, filter, length, get_or, take, inl, inr, refl, sym, ap, subst, ◌∙◌, append_assoc}
use Rattle.std.proofs.lemmas.List.{append-nil, drop_all, drop_more, take_more}
use Rattle.std.proofs.lemmas.List.Elements.{filter-append}
use Rattle.std.proofs.lemmas.Slice.Zip.{all_zipped_more}
use Rattle.hdl_languages.specs.declared.language.Language.{Language}
use Rattle.hdl_value.specs.declared.value.Value.{Value}
use Rattle.hdl_value.specs.Refs.{admin_read, list_read}
use Rattle.hdl_proxy.proofs.Pieces.{concat_push}
use Rattle.hdl_proxy.specs.Pages.{IsDataPart, IsGroupAt, IsGroupsFrom, IsRow, IsSection, IsSections, IsTextPart}

pub text_told : (language : Language) (v : Value) (part : List ℕ) → admin_read v ≡ None → list_read v ≡ None → IsTextPart language v part → IsDataPart language v part
text_told language v part no_admin no_list h = rw (no_admin, no_list) h

sections_push : (language : Language) (values : List Value) (v : Value) (part section : List ℕ) → IsSections language values part → IsSection language v section → IsSections language (values ++ v ∷ []) (part ++ section)
sections_push language values v part section h s =
    (h.0 ++ section ∷ [], all_zipped_more (IsSection language) values h.0 v section h.1 s, ap (λ (x : List ℕ). x ++ section) h.2 ∙ concat_push h.0 section)

-- one row more, where the value is put
row_pushed : (language : Language) (p : Value → Bool) (before : List Value) (v : Value) (part row : List ℕ) → IsSections language before part → IsRow language (p v) v row → IsSections language (before ++ filter p (v ∷ [])) (part ++ row)
row_pushed language p before v part row h (inl r) = rw r.0 (sections_push language before v part row h r.1)
row_pushed language p before v part row h (inr r) =
    let none : filter p (v ∷ []) ≡ [] = rw r.0 refl in
    subst (λ (vs : List Value). IsSections language vs (part ++ row)) (sym (append-nil before) ∙ ap (λ (vs : List Value). before ++ vs) (sym none))
    (subst (IsSections language before) (sym (append-nil part) ∙ ap (λ (x : List ℕ). part ++ x) (sym r.1)) h)

pub rows_more : (language : Language) (p : Value → Bool) (values : List Value) (i : ℕ) (v : Value) (put : Bool) (part row : List ℕ) → i < length values → v ≡ get_or values i v → put ≡ p v
    → IsSections language (filter p (take i values)) part → IsRow language put v row → IsSections language (filter p (take (i + 1) values)) (part ++ row)
rows_more language p values i v put part row lt is same h r =
    let more : take (i + 1) values ≡ take i values ++ v ∷ [] = take_more values i v lt ∙ ap (λ (x : Value). take i values ++ x ∷ []) (sym is) in
    let apart = ap (filter p) more ∙ filter-append p (take i values) (v ∷ []) in
    subst (λ (vs : List Value). IsSections language vs (part ++ row)) (sym apart) (row_pushed language p (filter p (take i values)) v part row h (subst (λ (b : Bool). IsRow language b v row) same r))

-- ---- groups

-- what is put so far is the front of the groups of all
abbrev pub IsFront : Language → Bool → List Value → ℕ → List ℕ → Type 0
IsFront language are_urls values i part =
    (others : List ℕ) → IsGroupsFrom language are_urls values (take i values) (drop i values) others → IsGroupsFrom language are_urls values [] values (part ++ others)

pub no_group : (language : Language) (are_urls : Bool) (values : List Value) → IsFront language are_urls values 0 []
no_group language are_urls values = λ others h. h

pub groups_more : (language : Language) (are_urls : Bool) (values : List Value) (i : ℕ) (v : Value) (part group : List ℕ) → i < length values → v ≡ get_or values i v
    → IsFront language are_urls values i part → IsGroupAt language are_urls values (take i values) v group → IsFront language are_urls values (i + 1) (part ++ group)
groups_more language are_urls values i v part group lt is h g = λ others left.
    let more : take (i + 1) values ≡ take i values ++ v ∷ [] = take_more values i v lt ∙ ap (λ (x : Value). take i values ++ x ∷ []) (sym is) in
    let rest : drop i values ≡ v ∷ drop (i + 1) values = drop_more values i v lt ∙ ap (λ (x : Value). x ∷ drop (i + 1) values) (sym is) in
    let behind = subst (λ (before : List Value). IsGroupsFrom language are_urls values before (drop (i + 1) values) others) more left in
    let whole = subst (λ (vs : List Value). IsGroupsFrom language are_urls values (take i values) vs (group ++ others)) (sym rest) (group, others, g, behind, refl) in
    subst (IsGroupsFrom language are_urls values [] values) (sym (append_assoc part group others)) (h (group ++ others) whole)

pub groups_all : (language : Language) (are_urls : Bool) (values : List Value) (i : ℕ) (part : List ℕ) → length values ≤ i → IsFront language are_urls values i part → IsGroupsFrom language are_urls values [] values part
groups_all language are_urls values i part le h =
    subst (IsGroupsFrom language are_urls values [] values) (append-nil part)
    (h [] (subst (λ (vs : List Value). IsGroupsFrom language are_urls values (take i values) vs []) (sym (drop_all i values le)) refl))

-- ---- tables

pub positive : (n : ℕ) → (n == 0) ≡ false → 0 < n
positive zero e = absurd cc
positive (suc n) e = omega arith
