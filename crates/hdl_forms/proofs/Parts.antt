-- Where a part stands in a page.
use Rattle.std.proofs.Common.{◌≡◌, ◌∙◌, ◌++◌, ◌∷◌, [], ap, sym, ℕ, List, true, false, if◌then◌else◌}
use Rattle.std.proofs.lemmas.List.{append_assoc, append-nil}
use Rattle.hdl_proxy.specs.declared.answer.Status.{Status}
use Rattle.hdl_forms.specs.Confirm.{fresh_address, is_unclear, ways_part}
use Rattle.hdl_forms.specs.Fields.{with_text}
use Rattle.hdl_forms.specs.Pages.{Has}
use Rattle.hdl_forms.specs.declared.markup.Template.TheVariants as templates

-- between what stands before it and two parts
pub has_middle : (before part one two octets : List ℕ) → octets ≡ ((before ++ part) ++ one) ++ two → Has part octets
has_middle before part one two octets e = (before, one ++ two, e ∙ append_assoc (before ++ part) one two ∙ append_assoc before part (one ++ two))

-- at the end
pub has_last : (before part octets : List ℕ) → octets ≡ before ++ part → Has part octets
has_last before part octets e = (before, [], e ∙ ap (λ p. before ++ p) (sym (append-nil part)))

-- before the last part
pub has_next : (before part last octets end : List ℕ) → octets ≡ before ++ end → end ≡ part ++ last → Has part octets
has_next before part last octets end e same = (before, last, e ∙ ap (λ p. before ++ p) same)

-- one text, and two, one after the other
pub one_text : (a : List ℕ) (l0 l1 : List (List ℕ)) → l0 ≡ [] → l1 ≡ l0 ++ a ∷ [] → l1 ≡ a ∷ []
one_text a l0 l1 e0 e1 = e1 ∙ ap (λ l. l ++ a ∷ []) e0

pub two_texts : (a b : List ℕ) (l0 l1 l2 : List (List ℕ)) → l0 ≡ [] → l1 ≡ l0 ++ a ∷ [] → l2 ≡ l1 ++ b ∷ [] → l2 ≡ a ∷ b ∷ []
two_texts a b l0 l1 l2 e0 e1 e2 = e2 ∙ ap (λ l. l ++ b ∷ []) (one_text a l0 l1 e0 e1)

-- the ways from a change
pub ways_plain : (status : Status) (name back part : List ℕ) → is_unclear status ≡ false → part ≡ with_text templates.Back back → part ≡ ways_part status name back
ways_plain status name back part clear e =
    e ∙ ap (λ b. if b then with_text templates.Look (fresh_address name) ++ with_text templates.Back back else with_text templates.Back back) (sym clear)

pub ways_unclear : (status : Status) (name back part : List ℕ) → is_unclear status ≡ true → part ≡ with_text templates.Look (fresh_address name) ++ with_text templates.Back back
    → part ≡ ways_part status name back
ways_unclear status name back part unclear e =
    e ∙ ap (λ b. if b then with_text templates.Look (fresh_address name) ++ with_text templates.Back back else with_text templates.Back back) (sym unclear)

pub ways_look : (status : Status) (name back : List ℕ) → is_unclear status ≡ true → ways_part status name back ≡ with_text templates.Look (fresh_address name) ++ with_text templates.Back back
ways_look status name back unclear = ap (λ b. if b then with_text templates.Look (fresh_address name) ++ with_text templates.Back back else with_text templates.Back back) unclear

pub three_texts : (a b c x y z : List ℕ) (l0 l1 l2 l3 : List (List ℕ)) → a ≡ x → b ≡ y → c ≡ z → l0 ≡ [] → l1 ≡ l0 ++ a ∷ [] → l2 ≡ l1 ++ b ∷ [] → l3 ≡ l2 ++ c ∷ [] → l3 ≡ x ∷ y ∷ z ∷ []
three_texts a b c x y z l0 l1 l2 l3 ea eb ec e0 e1 e2 e3 =
    e3 ∙ ap (λ l. l ++ c ∷ []) (two_texts a b l0 l1 l2 e0 e1 e2) ∙ ap (λ t. t ∷ b ∷ c ∷ []) ea ∙ ap (λ t. x ∷ t ∷ c ∷ []) eb ∙ ap (λ t. x ∷ y ∷ t ∷ []) ec

pub four_texts : (a b c d w x y z : List ℕ) (l0 l1 l2 l3 l4 : List (List ℕ)) → a ≡ w → b ≡ x → c ≡ y → d ≡ z → l0 ≡ [] → l1 ≡ l0 ++ a ∷ [] → l2 ≡ l1 ++ b ∷ [] → l3 ≡ l2 ++ c ∷ [] → l4 ≡ l3 ++ d ∷ []
    → l4 ≡ w ∷ x ∷ y ∷ z ∷ []
four_texts a b c d w x y z l0 l1 l2 l3 l4 ea eb ec ed e0 e1 e2 e3 e4 =
    e4 ∙ ap (λ l. l ++ d ∷ []) (e3 ∙ ap (λ l. l ++ c ∷ []) (two_texts a b l0 l1 l2 e0 e1 e2))
    ∙ ap (λ t. t ∷ b ∷ c ∷ d ∷ []) ea ∙ ap (λ t. w ∷ t ∷ c ∷ d ∷ []) eb ∙ ap (λ t. w ∷ x ∷ t ∷ d ∷ []) ec ∙ ap (λ t. w ∷ x ∷ y ∷ t ∷ []) ed

-- three parts behind a page are one
pub three_parts : (page head middle end one two after : List ℕ) → one ≡ page ++ head → two ≡ one ++ middle → after ≡ two ++ end → after ≡ page ++ ((head ++ middle) ++ end)
three_parts page head middle end one two after e1 e2 e3 =
    e3 ∙ ap (λ p. p ++ end) (e2 ∙ ap (λ p. p ++ middle) e1 ∙ append_assoc page head middle) ∙ append_assoc page (head ++ middle) end
