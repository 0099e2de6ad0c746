-- What is written piece by piece.
use Rattle.std.proofs.Common.{◌≡◌, ℕ, ◌+◌, ◌-◌, Option, Some, None, MatchOption, Result, Ok, Err, OnOk, List, [], ◌∷◌, ◌++◌, take, drop, length, refl, ap, sym, subst, append_assoc, append-nil, length-drop, ◌∙◌}
use Rattle.std.proofs.lemmas.List.{take-append-drop}
use Rattle.std.proofs.lemmas.List.Concat.{flat_map-append}
use Rattle.std.proofs.Math.Seq.{take-add, take-length}
use Rattle.std.specs.List.{flat_map}
use mathlib.Core.List.{IsPrefix}
use Rattle.hdl_events.specs.declared.Outcome.{Outcome}
use Rattle.hdl_workers.specs.Octets.{octets_of}
use Rattle.hdl_workers.specs.Door.{Connection, say}
use Rattle.hdl_workers.specs.WorkerLane.{Joins, Relayed, RelayedPart}

pub rest_whole : (i : ℕ) (s : List ℕ) → take (length s - i) (drop i s) ≡ drop i s
rest_whole i s = rw (← length-drop i s) (take-length (drop i s))

pub say_more : (c : Connection) (i n : ℕ) (s : List ℕ) → say (take n (take (length s - i) (drop i s))) (say (take i s) c) ≡ say (take (i + n) s) c
say_more c i n s =
    let e : c.written ++ take i s ++ take n (drop i s) ≡ c.written ++ take (i + n) s =
    append_assoc c.written (take i s) (take n (drop i s)) ∙ ap (λ w. c.written ++ w) (sym (take-add i n s)) in
    rw (rest_whole i s) (ap (λ (w : List ℕ). record c { written = w }) e)

pub part_of : (w : List ℕ) (i : ℕ) (s : List ℕ) → IsPrefix (w ++ take i s) (w ++ s)
part_of w i s = (drop i s, append_assoc w (take i s) (drop i s) ∙ ap (λ t. w ++ t) (take-append-drop i s))

pub relayed_none : (t : List Outcome) (c : Connection) → Relayed t c t c
relayed_none t c = ([], sym (append-nil t), sym (append-nil c.written), refl, refl)

-- nothing was relayed to a connection that stays as it was
pub relayed_still : (t u : List Outcome) (c d : Connection) → u ≡ t → d ≡ c → Relayed t c u d
relayed_still t u c d same still = rw (same, still) (relayed_none t c)

-- nor to one that was given up
pub part_still : (t u : List Outcome) (c d : Connection) → u ≡ t → d.written ≡ c.written → d.read ≡ c.read → RelayedPart t c u d
part_still t u c d same w r = ([], same ∙ sym (append-nil t), ([], append-nil d.written ∙ w ∙ sym (append-nil c.written)), r)

pub relayed_one : (t : List Outcome) (o : Outcome) (c d : Connection) → d ≡ say (octets_of o) c → Relayed t c (t ++ o ∷ []) d
relayed_one t o c d e =
    rw e (o ∷ [], refl, ap (λ w. c.written ++ w) (sym (append-nil (octets_of o))), refl, refl)

pub relayed_both : (t u v : List Outcome) (c d e : Connection) → Relayed t c u d → Relayed u d v e → Relayed t c v e
relayed_both t u v c d e (os, p, q, r, b) (os', p', q', r', b') = (
  os ++ os',
  p' ∙ ap (λ w. w ++ os') p ∙ append_assoc t os os',
  q' ∙ ap (λ w. w ++ flat_map octets_of os') q ∙ append_assoc c.written (flat_map octets_of os) (flat_map octets_of os') ∙ ap (λ w. c.written ++ w) (sym (flat_map-append octets_of os os')),
  r' ∙ r,
  b' ∙ b,
)

pub relayed_part : (t : List Outcome) (o : Outcome) (c d : Connection) → IsPrefix d.written (c.written ++ octets_of o) → d.read ≡ c.read → RelayedPart t c (t ++ o ∷ []) d
relayed_part t o c d p r =
    let e : octets_of o ≡ flat_map octets_of (o ∷ []) = sym (append-nil (octets_of o)) in
    (o ∷ [], refl, (p.0, p.1 ∙ ap (λ w. c.written ++ w) e), r)

-- what was relayed whole was relayed in part
pub relayed_is_part : (t u : List Outcome) (c d : Connection) → Relayed t c u d → RelayedPart t c u d
relayed_is_part t u c d (os, p, q, r, b) = (os, p, ([], append-nil d.written ∙ q), r)

pub relayed_then_part : (t u v : List Outcome) (c d e : Connection) → Relayed t c u d → RelayedPart u d v e → RelayedPart t c v e
relayed_then_part t u v c d e (os, p, q, r, b) (os', p', (w, q'), r') = (
  os ++ os',
  p' ∙ ap (λ w. w ++ os') p ∙ append_assoc t os os',
  (
    w,
    q' ∙ ap (λ w. w ++ flat_map octets_of os') q ∙ append_assoc c.written (flat_map octets_of os) (flat_map octets_of os') ∙ ap (λ w. c.written ++ w) (sym (flat_map-append octets_of os os')),
  ),
  r' ∙ r,
)

-- ---- outcomes whose octets are joined

pub joins_none : (t : List Outcome) (s : List ℕ) → Joins t s t s
joins_none t s = ([], sym (append-nil t), sym (append-nil s))

pub joins_more : (t u v : List Outcome) (s r q : List ℕ) (o : Outcome) → v ≡ u ++ o ∷ [] → q ≡ r ++ octets_of o → Joins t s u r → Joins t s v q
joins_more t u v s r q o taken more (os, p, e) = (
  os ++ o ∷ [],
  taken ∙ ap (λ w. w ++ o ∷ []) p ∙ append_assoc t os (o ∷ []),
  more ∙ ap (λ w. w ++ octets_of o) e ∙ append_assoc s (flat_map octets_of os) (octets_of o)
      ∙ ap (λ w. s ++ w) (ap (λ w. flat_map octets_of os ++ w) (sym (append-nil (octets_of o))) ∙ sym (flat_map-append octets_of os (o ∷ []))),
)

-- outcomes were joined, and then others
joins_both : (t u v : List Outcome) (s r q : List ℕ) → Joins t s u r → Joins u r v q → Joins t s v q
joins_both t u v s r q (os, p, e) (os', p', e') = (
  os ++ os',
  p' ∙ ap (λ w. w ++ os') p ∙ append_assoc t os os',
  e' ∙ ap (λ w. w ++ flat_map octets_of os') e ∙ append_assoc s (flat_map octets_of os) (flat_map octets_of os') ∙ ap (λ w. s ++ w) (sym (flat_map-append octets_of os os')),
)

pub joins_then : (o : Option Outcome) (t u v : List Outcome) (s r q : List ℕ) → Joins t s u r
    → MatchOption o (Joins u r v q) (λ last. (w : List Outcome) × (v ≡ w ++ last ∷ []) × Joins u r w q) → MatchOption o (Joins t s v q) (λ last. (w : List Outcome) × (v ≡ w ++ last ∷ []) × Joins t s w q)
joins_then None t u v s r q first then = joins_both t u v s r q first then
joins_then (Some last) t u v s r q first then = (then.0, then.1, joins_both t u then.0 s r q first then.2)

-- they were written with the outcome that was taken first
pub joined_whole : (t u v : List Outcome) (s r : List ℕ) (first : Outcome) (c d : Connection) → u ≡ t ++ first ∷ [] → s ≡ octets_of first → Joins u s v r → d ≡ say r c → Relayed t c v d
joined_whole t u v s r first c d taken begins (os, p, e) written = (
  first ∷ os,
  p ∙ ap (λ w. w ++ os) taken ∙ append_assoc t (first ∷ []) os,
  ap (λ (x : Connection). x.written) written ∙ ap (λ w. c.written ++ w) (e ∙ ap (λ w. w ++ flat_map octets_of os) begins),
  ap (λ (x : Connection). x.read) written,
  ap (λ (x : Connection). x.broken) written,
)

pub joined_part : (t u v : List Outcome) (s r : List ℕ) (first : Outcome) (c d : Connection) → u ≡ t ++ first ∷ [] → s ≡ octets_of first → Joins u s v r
    → IsPrefix d.written (c.written ++ r) → d.read ≡ c.read → RelayedPart t c v d
joined_part t u v s r first c d taken begins (os, p, e) (w, q) same = (
  first ∷ os,
  p ∙ ap (λ w. w ++ os) taken ∙ append_assoc t (first ∷ []) os,
  (w, q ∙ ap (λ w. c.written ++ w) (e ∙ ap (λ w. w ++ flat_map octets_of os) begins)),
  same,
)

-- one more was taken, and nothing of it was written
pub part_then_taken : (t u : List Outcome) (o : Outcome) (c d : Connection) → RelayedPart t c u d → RelayedPart t c (u ++ o ∷ []) d
part_then_taken t u o c d (os, p, (w, q), r) = (
  os ++ o ∷ [],
  ap (λ x. x ++ o ∷ []) p ∙ append_assoc t os (o ∷ []),
  (
    w ++ octets_of o,
    sym (append_assoc d.written w (octets_of o)) ∙ ap (λ x. x ++ octets_of o) q ∙ append_assoc c.written (flat_map octets_of os) (octets_of o)
        ∙ ap (λ x. c.written ++ x) (ap (λ x. flat_map octets_of os ++ x) (sym (append-nil (octets_of o))) ∙ sym (flat_map-append octets_of os (o ∷ []))),
  ),
  r,
)

-- the first of two writes failed
pub first_part : (result : Option Outcome) (t u v : List Outcome) (s r : List ℕ) (first : Outcome) (c d : Connection) → u ≡ t ++ first ∷ [] → s ≡ octets_of first
    → MatchOption result (Joins u s v r) (λ last. (w : List Outcome) × (v ≡ w ++ last ∷ []) × Joins u s w r) → IsPrefix d.written (c.written ++ r) → d.read ≡ c.read → RelayedPart t c v d
first_part None t u v s r first c d taken begins joins begun same = joined_part t u v s r first c d taken begins joins begun same
first_part (Some last) t u v s r first c d taken begins (w, more, joins) begun same =
    subst (λ x. RelayedPart t c x d) (sym more) (part_then_taken t w last c d (joined_part t u w s r first c d taken begins joins begun same))

-- the first was whole, and the second too, or in part
pub second_whole : (t u v w : List Outcome) (s r : List ℕ) (first last : Outcome) (c m d : Connection) → u ≡ t ++ first ∷ [] → s ≡ octets_of first → v ≡ w ++ last ∷ [] → Joins u s w r
    → m ≡ say r c → d ≡ say (octets_of last) m → Relayed t c v d
second_whole t u v w s r first last c m d taken begins more joins written then =
    subst (λ x. Relayed t c x d) (sym more) (relayed_both t w (w ++ last ∷ []) c m d (joined_whole t u w s r first c m taken begins joins written) (relayed_one w last m d then))

pub second_part : (t u v w : List Outcome) (s r : List ℕ) (first last : Outcome) (c m d : Connection) → u ≡ t ++ first ∷ [] → s ≡ octets_of first → v ≡ w ++ last ∷ [] → Joins u s w r
    → m ≡ say r c → IsPrefix d.written (m.written ++ octets_of last) → d.read ≡ m.read → RelayedPart t c v d
second_part t u v w s r first last c m d taken begins more joins written begun same =
    subst (λ x. RelayedPart t c x d) (sym more) (relayed_then_part t w (w ++ last ∷ []) c m d (joined_whole t u w s r first c m taken begins joins written) (relayed_part w last m d begun same))

pub if_ok : {A E : Type 0} {P Q : Type 0} (result : Result A E) → (P → Q) → OnOk result P → OnOk result Q
if_ok (Ok x) f p = f p
if_ok (Err e) f p = tt
