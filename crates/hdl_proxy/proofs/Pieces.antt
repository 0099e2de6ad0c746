-- A text in pieces, and one piece more.
use Rattle.std.proofs.Common.{◌≡◌, ℕ, List, [], ◌∷◌, ◌++◌, sym, ap, ◌∙◌, append_assoc}
use Rattle.std.specs.List.{AllByRecursion, AllZip, concat}
use Rattle.std.proofs.lemmas.List.{append-nil}
use Rattle.std.proofs.lemmas.Slice.Zip.{all_zipped_more}

pub concat_push : (parts : List (List ℕ)) (part : List ℕ) → concat parts ++ part ≡ concat (parts ++ part ∷ [])
concat_push [] part = sym (append-nil part)
concat_push (first ∷ parts) part = append_assoc first (concat parts) part ∙ ap (λ (x : List ℕ). first ++ x) (concat_push parts part)

-- the pieces of a text so far, each of which is as it should be, and the rest of the text
abbrev pub IsReadUpTo : {T : Type 0} → (List ℕ → T → Type 0) → List ℕ → List T → List ℕ → Type 0
IsReadUpTo R text read rest = (pieces : List (List ℕ)) × AllZip R pieces read × (text ≡ concat pieces ++ rest)

pub one_more : {T : Type 0} (R : List ℕ → T → Type 0) (text : List ℕ) (read : List T) (rest piece : List ℕ) (x : T) (rest' : List ℕ)
    → IsReadUpTo R text read rest → R piece x → rest ≡ piece ++ rest' → IsReadUpTo R text (read ++ x ∷ []) rest'
one_more R text read rest piece x rest' h r e = (
  h.0 ++ piece ∷ [],
  all_zipped_more R h.0 read piece x h.1 r,
  h.2 ∙ ap (λ (y : List ℕ). concat h.0 ++ y) e ∙ sym (append_assoc (concat h.0) piece rest') ∙ ap (λ (y : List ℕ). y ++ rest') (concat_push h.0 piece),
)

-- a text of three pieces and a rest, each of which was cut from the rest before it
pub three_pieces : (text r1 r2 rest a b d : List ℕ) → text ≡ a ++ r1 → r1 ≡ b ++ r2 → r2 ≡ d ++ rest → text ≡ (a ++ (b ++ d)) ++ rest
three_pieces text r1 r2 rest a b d h1 h2 h3 =
    h1 ∙ ap (λ (x : List ℕ). a ++ x) (h2 ∙ ap (λ (x : List ℕ). b ++ x) h3 ∙ sym (append_assoc b d rest)) ∙ sym (append_assoc a (b ++ d) rest)

-- a text of five pieces and a rest, each of which was cut from the rest before it
pub five_pieces : (text r1 r2 r3 r4 rest a b d e f : List ℕ) → text ≡ a ++ r1 → r1 ≡ b ++ r2 → r2 ≡ d ++ r3 → r3 ≡ e ++ r4 → r4 ≡ f ++ rest
    → text ≡ (a ++ (b ++ (d ++ (e ++ f)))) ++ rest
five_pieces text r1 r2 r3 r4 rest a b d e f h1 h2 h3 h4 h5 =
    h1 ∙ ap (λ (x : List ℕ). a ++ x) (h2 ∙ ap (λ (x : List ℕ). b ++ x) (h3 ∙ ap (λ (x : List ℕ). d ++ x) (h4 ∙ ap (λ (x : List ℕ). e ++ x) h5
    ∙ sym (append_assoc e f rest)) ∙ sym (append_assoc d (e ++ f) rest)) ∙ sym (append_assoc b (d ++ (e ++ f)) rest))
    ∙ sym (append_assoc a (b ++ (d ++ (e ++ f))) rest)

all_push : (P : List ℕ → Type 0) (xs : List (List ℕ)) (x : List ℕ) → AllByRecursion P xs → P x → AllByRecursion P (xs ++ x ∷ [])
all_push P [] x h p = (p, h)
all_push P (y ∷ ys) x h p = (h.0, all_push P ys x h.1 p)

-- behind a front pieces that are all so, and one more
pub more_pieces : (P : List ℕ → Type 0) (front text rest piece rest' : List ℕ)
    → ((pieces : List (List ℕ)) × AllByRecursion P pieces × (text ≡ front ++ (concat pieces ++ rest))) → P piece → rest ≡ piece ++ rest'
    → (pieces : List (List ℕ)) × AllByRecursion P pieces × (text ≡ front ++ (concat pieces ++ rest'))
more_pieces P front text rest piece rest' h p e = (
  h.0 ++ piece ∷ [],
  all_push P h.0 piece h.1 p,
  h.2 ∙ ap (λ (y : List ℕ). front ++ y) (ap (λ (y : List ℕ). concat h.0 ++ y) e ∙ sym (append_assoc (concat h.0) piece rest') ∙ ap (λ (y : List ℕ). y ++ rest') (concat_push h.0 piece)),
)
