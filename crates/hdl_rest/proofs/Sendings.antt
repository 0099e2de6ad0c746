-- How what was asked adds up.
use Rattle.std.proofs.Common.{◌≡◌, ◌⊎◌, inl, inr, ℕ, zero, suc, ◌+◌, ◌<◌, Bool, true, false, List, [], ◌∷◌, ◌++◌, length, map, take, drop, get_or, Option, Some, None, Result, Ok, Err, MatchOption, refl, ap, sym, subst, append_assoc, append-nil, add-one, ◌∙◌, arith, IsTrue}
use Rattle.std.specs.Prelude.{◌≢◌, ◌==◌, IfOk, IfSome}
use Rattle.std.specs.List.{AllByRecursion}
use Rattle.std.proofs.lemmas.Bool.{eq-eqb}
use Rattle.std.proofs.lemmas.Bool.Decides.{eqb_tells}
use Rattle.std.proofs.lemmas.List.{map-append, take-append-drop, length-map, length-take-le}
use Rattle.std.proofs.Math.Seq.{take-length}
use Rattle.hdl_client.specs.Reply.{Delivery}
use Rattle.hdl_client.specs.declared.challenge.Key.{Key}
use Rattle.hdl_value.specs.declared.value.Value.{Value}
use Rattle.hdl_msg.specs.declared.request_body.RequestBody.{RequestBody}
use Rattle.hdl_msg.specs.declared.codes.ResponseCode.TheVariants.{Success, HandleAlreadyExists}
use Rattle.hdl_msg.specs.Codes.{response_number}
use Rattle.hdl_msg.specs.Message.{Operation, resolution, create}
use Rattle.hdl_msg.specs.RequestBody.{requested_operation}
use Rattle.hdl_proxy.specs.Answer.{Tells}
use Rattle.hdl_proxy.specs.declared.answer.Answer.{Answer}
use Rattle.hdl_proxy.specs.declared.answer.Media.{Media}
use Rattle.hdl_proxy.specs.declared.answer.Status.{Status}
use Rattle.hdl_rest.specs.declared.order.ChangeAction.{ChangeAction}
use Rattle.hdl_rest.specs.declared.order.Order.{Order}
use Rattle.hdl_rest.specs.declared.service.ChangeServer.{Ghosts}
use Rattle.hdl_rest.specs.declared.stop.ChangeFault.{ChangeFault}
use Rattle.hdl_rest.specs.declared.stop.ChangeFault.TheVariants.{Code}
use Rattle.hdl_rest.specs.Exchange.{Exchange, exchange, Asks, Says, IsDone, IsUndone, IsRefused}
use Rattle.hdl_rest.specs.Orders.{AllExist, Mints, MintsOnce, CarriesAct, CarriesOrder, changes}
use Rattle.hdl_rest.specs.Sending.{Tries, IsFailure, IsToldBy, Makes, Sends, SendsAll, Shows, TriesReading, SendsByReading, Replaces, CarriesOut, code_of, says_done}
use Rattle.hdl_rest.specs.Since.{AskedSince}
use Rattle.hdl_rest.specs.Plan.{replacing}

-- ---- of a server

pub asked_nothing : {S : Type 0} {g : Ghosts S} {a : S} {Holds : List Exchange → Type 0} → Holds [] → AskedSince g a a Holds
asked_nothing {g = g} {a = a} h = record { since = λ t. ([], sym (append-nil (g.asked a)), h) }

pub asked_so : {S : Type 0} {g : Ghosts S} {a b : S} {P Q : List Exchange → Type 0} → AskedSince g a b P → ((xs : List Exchange) → P xs → Q xs) → AskedSince g a b Q
asked_so h f = record { since = λ t. let w = h.since t in (w.0, w.1, f w.0 w.2) }

pub asked_then : {S : Type 0} {g : Ghosts S} {a b c : S} {P Q R : List Exchange → Type 0} → AskedSince g a b P → AskedSince g b c Q → ((xs ys : List Exchange) → P xs → Q ys → R (xs ++ ys)) → AskedSince g a c R
asked_then {g = g} {a = a} h k f = record {
  since = λ t.
      let v = h.since t in
      let w = k.since t in
      (v.0 ++ w.0, w.1 ∙ ap (λ all. all ++ w.0) v.1 ∙ append_assoc (g.asked a) v.0 w.0, f v.0 w.0 v.2 w.2);
}

-- what was asked before is the same
pub asked_from : {S : Type 0} {g : Ghosts S} {a b c : S} {P : List Exchange → Type 0} → (IsTrue g.is_observed → g.asked b ≡ g.asked a) → AskedSince g b c P → AskedSince g a c P
asked_from same h = record { since = λ t. let w = h.since t in (w.0, w.1 ∙ ap (λ all. all ++ w.0) (same t), w.2) }

pub asked_one : {S : Type 0} {g : Ghosts S} {a b : S} (key : Key) (operation : Operation) (reply : Option Delivery) → (IsTrue g.is_observed → g.asked b ≡ g.asked a ++ exchange operation key reply ∷ []) → AskedSince g a b (Tries key operation reply)
asked_one key operation reply h = record { since = λ t. (exchange operation key reply ∷ [], h t, inr (exchange operation key reply, refl, (refl, refl), refl)) }

-- ---- one request

pub made : {A : Type 0} (key : Key) (operation : Operation) (told : Result A ChangeFault) (reply : Option Delivery) → IsToldBy told reply → (xs : List Exchange) → Tries key operation reply xs → Makes key operation told xs
made key operation told reply by xs tried = record { reply = reply; tried = tried; told_by = by }

says_by : (code : ℕ) (key : Key) (operation : Operation) (xs : List Exchange) (reply : Option Delivery) → Tries key operation reply xs → Says code reply → (x : Exchange) × (xs ≡ x ∷ []) × Asks key operation x × Says code x.reply
says_by code key operation xs reply (inl (none, lacks)) told = let w = subst (Says code) lacks told in absurd w.1
says_by code key operation xs reply (inr (x, is, asks, same)) told = (x, is, asks, subst (Says code) (sym same) told)

pub makes_done : {A : Type 0} (key : Key) (operation : Operation) (xs : List Exchange) (done : A) → Makes key operation (Ok done) xs → (x : Exchange) × (xs ≡ x ∷ []) × Asks key operation x × IsDone x
makes_done key operation xs done m = says_by (response_number Success) key operation xs m.reply m.tried m.told_by

refused : (code : Option ℕ) (reply : Option Delivery) → MatchOption code (reply ≡ None) (λ c. Says c reply) → code ≢ Some (response_number Success) → IsRefused reply
refused None reply told bad = inl told
refused (Some code) reply told bad = inr (code, told, (λ e. bad (ap (λ c. Some c) e)))

undone_by : (key : Key) (operation : Operation) (xs : List Exchange) (reply : Option Delivery) → Tries key operation reply xs → IsRefused reply → (xs ≡ []) ⊎ ((x : Exchange) × (xs ≡ x ∷ []) × Asks key operation x × IsUndone x)
undone_by key operation xs reply (inl (none, lacks)) bad = inl none
undone_by key operation xs reply (inr (x, is, asks, same)) bad = inr (x, is, asks, subst IsRefused (sym same) bad)

pub makes_undone : {A : Type 0} (key : Key) (operation : Operation) (xs : List Exchange) (fault : ChangeFault) → Makes {A = A} key operation (Err fault) xs → IsFailure fault → (xs ≡ []) ⊎ ((x : Exchange) × (xs ≡ x ∷ []) × Asks key operation x × IsUndone x)
makes_undone key operation xs fault m bad = undone_by key operation xs m.reply m.tried (refused (code_of fault) m.reply m.told_by bad)

pub makes_code : {A : Type 0} (key : Key) (operation : Operation) (xs : List Exchange) (code : ℕ) → Makes {A = A} key operation (Err (Code code)) xs → (x : Exchange) × (xs ≡ x ∷ []) × Asks key operation x × Says code x.reply
makes_code key operation xs code m = says_by code key operation xs m.reply m.tried m.told_by

pub told_done : {E : Type 0} (result : Result Answer E) (status : Status) (media : Media) → IfOk result (Tells status media) → says_done status ≡ true → IfOk result (λ answer. says_done answer.status ≡ true)
told_done (Ok answer) status media h done = ap says_done h.status ∙ done
told_done (Err e) status media h done = tt

pub one_done : {A : Type 0} (key : Key) (operation : Operation) (done : A) (xs : List Exchange) → Makes key operation (Ok done) xs → SendsAll key (operation ∷ []) xs true
one_done key operation done xs makes =
    let w = makes_done key operation xs done makes in
    let all : SendsAll key (operation ∷ []) (w.0 ∷ []) true = (1, (w.2, inl (w.3, (0, refl, refl))), refl) in
    subst (λ ys. SendsAll key (operation ∷ []) ys true) (sym w.1) all

pub one_undone : {A : Type 0} (key : Key) (operation : Operation) (fault : ChangeFault) (xs : List Exchange) → Makes {A = A} key operation (Err fault) xs → IsFailure fault → SendsAll key (operation ∷ []) xs false
one_undone {A} key operation fault xs makes bad =
    let nothing : SendsAll key (operation ∷ []) [] false = (0, refl, refl) in
    elim (makes_undone {A = A} key operation xs fault makes bad) [
      | inl none ↦ subst (λ ys. SendsAll key (operation ∷ []) ys false) (sym none) nothing
      | inr (x, is, asks, undone) ↦ subst (λ ys. SendsAll key (operation ∷ []) ys false) (sym is) (0, (asks, inr (undone, refl, refl)), refl)
    ]

-- ---- steps

take_suc_next : {X : Type 0} (xs : List X) (i : ℕ) (x : X) → i < length xs → x ≡ get_or xs i x → take (suc i) xs ≡ take i xs ++ x ∷ []
take_suc_next [] i x low is = absurd (omega arith)
take_suc_next (y ∷ xs) zero x low is = ap (λ z. z ∷ []) (sym is)
take_suc_next (y ∷ xs) (suc i) x low is = ap (λ zs. y ∷ zs) (take_suc_next xs i x (omega arith) is)

take_next : {X : Type 0} (xs : List X) (i : ℕ) (x : X) → i < length xs → x ≡ get_or xs i x → take (i + 1) xs ≡ take i xs ++ x ∷ []
take_next xs i x low is = rw add-one (take_suc_next xs i x low is)

drop_next : {X : Type 0} (xs : List X) (i : ℕ) (x : X) → i < length xs → x ≡ get_or xs i x → drop i xs ≡ x ∷ drop (suc i) xs
drop_next [] i x low is = absurd (omega arith)
drop_next (y ∷ xs) zero x low is = ap (λ z. z ∷ xs) (sym is)
drop_next (y ∷ xs) (suc i) x low is = drop_next xs i x (omega arith) is

sends_then : (key : Key) (ss ts : List Operation) (xs ys : List Exchange) (n m : ℕ) → n ≡ length ss → Sends key ss xs n → Sends key ts ys m → Sends key (ss ++ ts) (xs ++ ys) (n + m)
sends_then key [] ts [] ys n m len h k = let e : m ≡ n + m = omega arith in subst (Sends key ts ys) e k
sends_then key [] ts (x ∷ xs) ys n m len h k = absurd h
sends_then key (s ∷ ss) ts [] ys n m len h k = absurd (omega arith)
sends_then key (s ∷ ss) ts (x ∷ xs) ys n m len (asks, inl (done, (more, rest, is))) k =
    let e : more ≡ length ss = omega arith in
    let f : n + m ≡ more + m + 1 = omega arith in
    (asks, inl (done, (more + m, sends_then key ss ts xs ys more m e rest k, f)))
sends_then key (s ∷ ss) ts (x ∷ xs) ys n m len (asks, inr (undone, none, is)) k = absurd (omega arith)

so_many : (steps : List RequestBody) (i : ℕ) → i < length steps → i ≡ length (map requested_operation (take i steps))
so_many steps i low = sym (length-map (take i steps) requested_operation ∙ length-take-le i steps (omega arith))

pub step_more : {A : Type 0} (key : Key) (steps : List RequestBody) (i : ℕ) (step : RequestBody) (xs ys : List Exchange) (done : A) → i < length steps → step ≡ get_or steps i step
    → Sends key (map requested_operation (take i steps)) xs i → Makes key (requested_operation step) (Ok done) ys → Sends key (map requested_operation (take (i + 1) steps)) (xs ++ ys) (i + 1)
step_more key steps i step xs ys done low is front makes =
    let w = makes_done key (requested_operation step) ys done makes in
    let one : Sends key (requested_operation step ∷ []) (w.0 ∷ []) 1 = (w.2, inl (w.3, (0, refl, refl))) in
    let last : Sends key (requested_operation step ∷ []) ys 1 = subst (λ zs. Sends key (requested_operation step ∷ []) zs 1) (sym w.1) one in
    let e : map requested_operation (take i steps) ++ requested_operation step ∷ [] ≡ map requested_operation (take (i + 1) steps) =
    sym (ap (map requested_operation) (take_next steps i step low is) ∙ map-append requested_operation (take i steps) (step ∷ [])) in
    subst (λ ss. Sends key ss (xs ++ ys) (i + 1)) e (sends_then key (map requested_operation (take i steps)) (requested_operation step ∷ []) xs ys i 1 (so_many steps i low) front last)

step_end : (key : Key) (steps : List RequestBody) (i : ℕ) (xs ys : List Exchange) → i < length steps
    → Sends key (map requested_operation (take i steps)) xs i → Sends key (map requested_operation (drop i steps)) ys 0 → Sends key (map requested_operation steps) (xs ++ ys) i
step_end key steps i xs ys low front back =
    let both : Sends key (map requested_operation (take i steps) ++ map requested_operation (drop i steps)) (xs ++ ys) (i + 0) =
    sends_then key (map requested_operation (take i steps)) (map requested_operation (drop i steps)) xs ys i 0 (so_many steps i low) front back in
    let e : map requested_operation (take i steps) ++ map requested_operation (drop i steps) ≡ map requested_operation steps =
    sym (map-append requested_operation (take i steps) (drop i steps)) ∙ ap (map requested_operation) (take-append-drop i steps) in
    let f : i + 0 ≡ i = omega arith in
    subst (λ n. Sends key (map requested_operation steps) (xs ++ ys) n) f (subst (λ ss. Sends key ss (xs ++ ys) (i + 0)) e both)

pub step_undone : {A : Type 0} (key : Key) (steps : List RequestBody) (i : ℕ) (step : RequestBody) (xs ys : List Exchange) (fault : ChangeFault) → i < length steps → step ≡ get_or steps i step
    → Sends key (map requested_operation (take i steps)) xs i → Makes {A = A} key (requested_operation step) (Err fault) ys → IsFailure fault → Sends key (map requested_operation steps) (xs ++ ys) i
step_undone {A} key steps i step xs ys fault low is front makes bad =
    let e : requested_operation step ∷ map requested_operation (drop (suc i) steps) ≡ map requested_operation (drop i steps) = sym (ap (map requested_operation) (drop_next steps i step low is)) in
    step_end key steps i xs ys low front
    (
    elim (makes_undone {A = A} key (requested_operation step) ys fault makes bad) [
      | inl none ↦ subst (λ zs. Sends key (map requested_operation (drop i steps)) zs 0) (sym none) refl
      | inr (x, one, asks, undone) ↦ subst (λ zs. Sends key (map requested_operation (drop i steps)) zs 0) (sym one) (subst (λ ss. Sends key ss (x ∷ []) 0) e (asks, inr (undone, refl, refl)))
    ]
    )

pub steps_all : (key : Key) (steps : List RequestBody) (i : ℕ) (xs : List Exchange) → i ≡ length steps → Sends key (map requested_operation (take i steps)) xs i → Sends key (map requested_operation steps) xs i
steps_all key steps i xs whole h = subst (λ ss. Sends key (map requested_operation ss) xs i) (ap (λ n. take n steps) whole ∙ take-length steps) h

pub all_sent : (key : Key) (steps : List RequestBody) (xs : List Exchange) (count : ℕ) → count ≡ length steps → Sends key (map requested_operation steps) xs count → SendsAll key (map requested_operation steps) xs true
all_sent key steps xs count whole h = (count, h, sym (eq-eqb count (length (map requested_operation steps)) (whole ∙ sym (length-map steps requested_operation))))

not_same : (a b : ℕ) → a < b → false ≡ (a == b)
not_same a b low = elim (eqb_tells a b) [
  | inl (holds, same) ↦ absurd (omega arith)
  | inr (fails, other) ↦ sym fails
]

pub part_sent : (key : Key) (steps : List RequestBody) (xs : List Exchange) (count : ℕ) → count < length steps → Sends key (map requested_operation steps) xs count → SendsAll key (map requested_operation steps) xs false
part_sent key steps xs count low h = (count, h, not_same count (length (map requested_operation steps)) (rw (length-map steps requested_operation) low))

-- ---- readings

pub read_shown : (key : Key) (handle indexes there : List ℕ) (came : Delivery) (xs : List Exchange) → Shows handle there (Some came) → Tries key (resolution handle indexes []) (Some came) xs → TriesReading key handle indexes (Some there) xs
read_shown key handle indexes there came xs shows (inl (none, lacks)) = absurd (cc)
read_shown key handle indexes there came xs shows (inr (x, is, asks, same)) = inr (x, is, asks, subst (Shows handle there) (sym same) shows)

pub read_none : (key : Key) (handle indexes : List ℕ) (reply : Option Delivery) (xs : List Exchange) → Tries key (resolution handle indexes []) reply xs → TriesReading key handle indexes None xs
read_none key handle indexes reply xs (inl (none, lacks)) = inl (none, refl)
read_none key handle indexes reply xs (inr (x, is, asks, same)) = inr (x, is, asks, tt)

pub read_stop : (key : Key) (handle indexes : List ℕ) (plan : List ℕ → List Operation) (there : Option (List ℕ)) (xs : List Exchange) → TriesReading key handle indexes there xs → SendsByReading key handle indexes plan xs false
read_stop key handle indexes plan there xs (inl (none, lacks)) = subst (λ ys. SendsByReading key handle indexes plan ys false) (sym none) refl
read_stop key handle indexes plan there xs (inr (x, is, asks, shows)) = subst (λ ys. SendsByReading key handle indexes plan ys false) (sym is) (asks, inl (refl, refl))

pub read_then : (key : Key) (handle indexes : List ℕ) (plan : List ℕ → List Operation) (there : List ℕ) (xs ys : List Exchange) (whole : Bool) → TriesReading key handle indexes (Some there) xs → SendsAll key (plan there) ys whole → SendsByReading key handle indexes plan (xs ++ ys) whole
read_then key handle indexes plan there xs ys whole (inl (none, lacks)) all = absurd (cc)
read_then key handle indexes plan there xs ys whole (inr (x, is, asks, shows)) all = subst (λ zs. SendsByReading key handle indexes plan (zs ++ ys) whole) (sym is) (asks, inr (there, shows, all))

-- ---- replacements

pub replaced : {A : Type 0} (key : Key) (handle : List ℕ) (vs : List Value) (done : A) (xs : List Exchange) → Makes key (create handle vs) (Ok done) xs → Replaces key handle vs xs true
replaced key handle vs done xs makes =
    let w = makes_done key (create handle vs) xs done makes in
    let all : Replaces key handle vs (w.0 ∷ []) true = (w.2, inl (w.3, refl, refl)) in
    subst (λ ys. Replaces key handle vs ys true) (sym w.1) all

pub not_replaced : {A : Type 0} (key : Key) (handle : List ℕ) (vs : List Value) (fault : ChangeFault) (xs : List Exchange) → Makes {A = A} key (create handle vs) (Err fault) xs → IsFailure fault → Replaces key handle vs xs false
not_replaced {A} key handle vs fault xs makes bad = elim (makes_undone {A = A} key (create handle vs) xs fault makes bad) [
  | inl none ↦ subst (λ ys. Replaces key handle vs ys false) (sym none) refl
  | inr (x, is, asks, undone) ↦ subst (λ ys. Replaces key handle vs ys false) (sym is) (asks, inr (inl (undone, refl, refl)))
]

pub replaced_by : {A : Type 0} (key : Key) (handle : List ℕ) (vs : List Value) (xs ys : List Exchange) (whole : Bool) → Makes {A = A} key (create handle vs) (Err (Code (response_number HandleAlreadyExists))) xs
    → SendsByReading key handle [] (λ there. replacing handle there vs) ys whole → Replaces key handle vs (xs ++ ys) whole
replaced_by {A} key handle vs xs ys whole makes rest =
    let w = makes_code {A = A} key (create handle vs) xs (response_number HandleAlreadyExists) makes in
    let all : Replaces key handle vs (w.0 ∷ ys) whole = (w.2, inr (inr (w.3, rest))) in
    subst (λ zs. Replaces key handle vs (zs ++ ys) whole) (sym w.1) all

-- ---- suffixes

pub exist_more : (key : Key) (front : List ℕ) (vs : List Value) (xs ys : List Exchange) → AllExist key front vs xs → AllExist key front vs ys → AllExist key front vs (xs ++ ys)
exist_more key front vs [] ys h k = k
exist_more key front vs (x ∷ xs) ys h k = (h.0, exist_more key front vs xs ys h.1 k)

pub mints_then : (key : Key) (front : List ℕ) (vs : List Value) (xs ys : List Exchange) (whole : Bool) → AllExist key front vs xs → Mints key front vs ys whole → Mints key front vs (xs ++ ys) whole
mints_then key front vs [] ys whole h k = k
mints_then key front vs (x ∷ xs) ys whole h k = (h.0.0, inr (inr (h.0.1, mints_then key front vs xs ys whole h.1 k)))

pub none_minted : (key : Key) (front : List ℕ) (vs : List Value) (xs : List Exchange) → AllExist key front vs xs → Mints key front vs xs false
none_minted key front vs [] h = refl
none_minted key front vs (x ∷ xs) h = (h.0.0, inr (inr (h.0.1, none_minted key front vs xs h.1)))

-- ---- orders

pub carries_change : {E : Type 0} (order : Order) (act : ChangeAction) (body : List ℕ) (result : Result Answer E) (xs : List Exchange) → order.act ≡ act → CarriesOut (CarriesAct act order.key order.name body) result xs → CarriesOrder order body result xs
carries_change order act body result xs is (whole, plan, told) = (whole, subst (λ a. CarriesAct a order.key order.name body xs whole) (sym is) plan, (λ _. told))

pub carries_reading : {E : Type 0} (order : Order) (act : ChangeAction) (body : List ℕ) (result : Result Answer E) (xs : List Exchange) → order.act ≡ act → changes act ≡ false → ((whole : Bool) × CarriesAct act order.key order.name body xs whole) → CarriesOrder order body result xs
carries_reading order act body result xs is reads (whole, plan) = (
  whole,
  subst (λ a. CarriesAct a order.key order.name body xs whole) (sym is) plan,
  (λ t. let e : changes order.act ≡ changes act = ap changes is in absurd (cc)),
)
