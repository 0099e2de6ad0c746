-- What was asked by one request, and what that comes to.
use Rattle.std.proofs.Common.{◌≡◌, ◌⊎◌, inl, inr, ℕ, Bool, true, false, List, [], ◌∷◌, Option, Some, None, MatchOption, Result, Ok, Err, refl, sym, subst, ap, ◌∙◌}
use Rattle.std.specs.Prelude.{◌≢◌, ◌==◌, IfOk, IfNone, IsTrue, MatchResult, option_map}
use Rattle.std.specs.List.{list_all}
use Rattle.std.specs.Global.{Vec}
use Rattle.std.specs.Result.{result_ok}
use Rattle.std.proofs.lemmas.Bool.Decides.{eqb_tells}
use Rattle.hdl_client.specs.Reply.{Delivery}
use Rattle.hdl_client.specs.declared.challenge.Key.{Key}
use Rattle.hdl_value.specs.declared.value.Value.{Value}
use Rattle.hdl_msg.specs.declared.codes.ResponseCode.TheVariants.{Success, HandleAlreadyExists}
use Rattle.hdl_msg.specs.Codes.{response_number}
use Rattle.hdl_msg.specs.Message.{Operation, create, resolution}
use Rattle.hdl_msg.specs.Reply.{ReplyParts, SpellsReply}
use Rattle.hdl_name.specs.Name.{IsHandle}
use Rattle.hdl_name.specs.declared.fault.NameFault.{NameFault}
use Rattle.hdl_proxy.specs.Answer.{Tells}
use Rattle.hdl_proxy.specs.declared.answer.Answer.{Answer}
use Rattle.hdl_proxy.specs.declared.answer.Media.{Media}
use Rattle.hdl_proxy.specs.declared.answer.Status.{Status}
use Rattle.hdl_rest.specs.declared.service.ChangeServer.{Ghosts}
use Rattle.hdl_rest.specs.declared.stop.ChangeFault.{ChangeFault}
use Rattle.hdl_rest.specs.declared.stop.ChangeFault.TheVariants.{Code}
use Rattle.hdl_rest.specs.Exchange.{Exchange, Asks, Says, IsDone, IsUndone, IsRefused}
use Rattle.hdl_rest.specs.Orders.{AllExist, AreAmong, Mints, MintsOnce, TellsMint}
use Rattle.hdl_rest.specs.Plan.{is_among}
use Rattle.hdl_rest.specs.Sending.{Tries, TriesReading, ShowsIn, SendsByReading, IsFailure, IsToldBy, Makes, SendsAll, CarriesOut, code_of, says_done}
use Rattle.hdl_rest.specs.Since.{AskedSince}
use Rattle.hdl_rest.specs.Suffix.{with_suffix}
use Rattle.hdl_rest.proofs.Sendings.{asked_so, asked_then, read_then, makes_code, makes_done, makes_undone, none_minted, read_none, read_shown}

-- ---- the same request by another name

pub tried_of : {S : Type 0} {g : Ghosts S} {a b : S} (key : Key) (one next : Operation) (reply : Option Delivery) → one ≡ next → AskedSince g a b (Tries key one reply) → AskedSince g a b (Tries key next reply)
tried_of {g = g} {a = a} {b = b} key one next reply is h = subst (λ o. AskedSince g a b (Tries key o reply)) is h

pub makes_of : {A : Type 0} (key : Key) (one next : Operation) (told : Result A ChangeFault) (xs : List Exchange) → one ≡ next → Makes key one told xs → Makes key next told xs
makes_of key one next told xs is h = subst (λ o. Makes key o told xs) is h

-- ---- any request

decided : (reply : Option Delivery) (parts : ReplyParts) → (came : Delivery) → reply ≡ Some came → SpellsReply came.wire came.message parts → Says (response_number Success) reply ⊎ IsRefused reply
decided reply parts came is seen =
    let code = parts.header.response_code in
    elim (eqb_tells code (response_number Success)) [
      | inl (holds, same) ↦ inl (subst (Says (response_number Success)) (sym is) (parts, seen, same))
      | inr (fails, other) ↦ inr (inr (code, subst (Says code) (sym is) (parts, seen, refl), other))
    ]

one_sent : (key : Key) (operation : Operation) (x : Exchange) → Asks key operation x → IsDone x ⊎ IsUndone x → (whole : Bool) × SendsAll key (operation ∷ []) (x ∷ []) whole
one_sent key operation x asks (inl done) = (true, (1, (asks, inl (done, (0, refl, refl))), refl))
one_sent key operation x asks (inr undone) = (false, (0, (asks, inr (undone, refl, refl)), refl))

nothing_sent : (key : Key) (operation : Operation) → (whole : Bool) × SendsAll key (operation ∷ []) [] whole
nothing_sent key operation = (false, (0, refl, refl))

pub answered_sends : (key : Key) (operation : Operation) (came : Delivery) (parts : ReplyParts) → SpellsReply came.wire came.message parts → (xs : List Exchange) → Tries key operation (Some came) xs → (whole : Bool) × SendsAll key (operation ∷ []) xs whole
answered_sends key operation came parts seen xs (inl (none, lacks)) = subst (λ ys. (whole : Bool) × SendsAll key (operation ∷ []) ys whole) (sym none) (nothing_sent key operation)
answered_sends key operation came parts seen xs (inr (x, is, asks, same)) =
    subst (λ ys. (whole : Bool) × SendsAll key (operation ∷ []) ys whole) (sym is) (one_sent key operation x asks (decided x.reply parts came same seen))

pub unanswered_sends : (key : Key) (operation : Operation) (xs : List Exchange) → Tries key operation None xs → (whole : Bool) × SendsAll key (operation ∷ []) xs whole
unanswered_sends key operation xs (inl (none, lacks)) = subst (λ ys. (whole : Bool) × SendsAll key (operation ∷ []) ys whole) (sym none) (nothing_sent key operation)
unanswered_sends key operation xs (inr (x, is, asks, same)) = subst (λ ys. (whole : Bool) × SendsAll key (operation ∷ []) ys whole) (sym is) (one_sent key operation x asks (inr (inl same)))

-- ---- suffixes

pub mint_made : {A : Type 0} (key : Key) (front drawn : List ℕ) (vs : List Value) (done : A) (xs : List Exchange) → Makes key (create (with_suffix front drawn) vs) (Ok done) xs → Mints key front vs xs true
mint_made key front drawn vs done xs makes =
    let w = makes_done key (create (with_suffix front drawn) vs) xs done makes in
    let all : Mints key front vs (w.0 ∷ []) true = ((drawn, w.2), inl (w.3, refl, refl)) in
    subst (λ ys. Mints key front vs ys true) (sym w.1) all

pub mint_failed : {A : Type 0} (key : Key) (front drawn : List ℕ) (vs : List Value) (fault : ChangeFault) (xs : List Exchange) → Makes {A = A} key (create (with_suffix front drawn) vs) (Err fault) xs → IsFailure fault → Mints key front vs xs false
mint_failed {A} key front drawn vs fault xs makes bad = elim (makes_undone {A = A} key (create (with_suffix front drawn) vs) xs fault makes bad) [
  | inl none ↦ subst (λ ys. Mints key front vs ys false) (sym none) refl
  | inr (x, is, asks, undone) ↦ subst (λ ys. Mints key front vs ys false) (sym is) ((drawn, asks), inr (inl (undone, refl, refl)))
]

pub mint_exists : {A : Type 0} (key : Key) (front drawn : List ℕ) (vs : List Value) (xs : List Exchange) → Makes {A = A} key (create (with_suffix front drawn) vs) (Err (Code (response_number HandleAlreadyExists))) xs → AllExist key front vs xs
mint_exists {A} key front drawn vs xs makes =
    let w = makes_code {A = A} key (create (with_suffix front drawn) vs) xs (response_number HandleAlreadyExists) makes in
    let all : AllExist key front vs (w.0 ∷ []) = (((drawn, w.2), w.3), tt) in
    subst (AllExist key front vs) (sym w.1) all

-- ---- answers

pub carried_of : {S E : Type 0} {g : Ghosts S} {a b : S} (key : Key) (one next : Operation) (result : Result Answer E) → one ≡ next → AskedSince g a b (CarriesOut (SendsAll key (one ∷ [])) result) → AskedSince g a b (CarriesOut (SendsAll key (next ∷ [])) result)
carried_of {g = g} {a = a} {b = b} key one next result is h = subst (λ o. AskedSince g a b (CarriesOut (SendsAll key (o ∷ [])) result)) is h

pub reads_of : {S : Type 0} {g : Ghosts S} {a b : S} (key : Key) (one next : Operation) → one ≡ next → AskedSince g a b (λ xs. (whole : Bool) × SendsAll key (one ∷ []) xs whole) → AskedSince g a b (λ xs. (whole : Bool) × SendsAll key (next ∷ []) xs whole)
reads_of {g = g} {a = a} {b = b} key one next is h = subst (λ o. AskedSince g a b (λ xs. (whole : Bool) × SendsAll key (o ∷ []) xs whole)) is h

pub carried_by_reading : {S E : Type 0} {g : Ghosts S} {a b d : S} (key : Key) (handle asked indexes : List ℕ) (plan : List ℕ → List Operation) (there : List ℕ) (steps : List Operation) (result : Result Answer E) → asked ≡ indexes → steps ≡ plan there
    → AskedSince g a b (TriesReading key handle asked (Some there)) → AskedSince g b d (CarriesOut (SendsAll key steps) result) → AskedSince g a d (CarriesOut (SendsByReading key handle indexes plan) result)
carried_by_reading key handle asked indexes plan there steps result same is read carried =
    asked_then (asked_so read (λ xs tried. subst (λ ns. TriesReading key handle ns (Some there) xs) same tried)) carried (λ xs ys tried w.
    (w.0, read_then key handle indexes plan there xs ys w.0 tried (subst (λ ss. SendsAll key ss ys w.0) is w.1), w.2))

pub among_by : {F : Type 0} (among : Option (Vec ℕ)) (indexes : Vec ℕ) (taken : List ℕ) (vs : List Value) (fault : Option F) → among ≡ Some indexes → taken ≡ indexes.items → IfNone fault (IsTrue (list_all (λ v. is_among v.index taken) vs)) → IfNone fault (AreAmong among vs)
among_by among indexes taken vs fault is same h =
    subst (λ o. IfNone fault (AreAmong o vs)) (sym is) (subst (λ ns. IfNone fault (IsTrue (list_all (λ v. is_among v.index ns) vs))) same h)

-- ---- what is told

pub told_none : (code : Option ℕ) (reply : Option Delivery) → code ≡ None → reply ≡ None → MatchOption code (reply ≡ None) (λ c. Says c reply)
told_none code reply none same = subst (λ (o : Option ℕ). MatchOption o (reply ≡ None) (λ c. Says c reply)) (sym none) same

pub told_so : {E : Type 0} (result : Result Answer E) (status : Status) (media : Media) (whole : Bool) → IfOk result (Tells status media) → says_done status ≡ whole → IfOk result (λ answer. says_done answer.status ≡ whole)
told_so (Ok answer) status media whole h is = ap says_done h.status ∙ is
told_so (Err e) status media whole h is = tt

read_so : {E : Type 0} (key : Key) (handle indexes : List ℕ) (came : Delivery) (parts : ReplyParts) (there : Result (Vec ℕ) E) → SpellsReply came.wire came.message parts → IfOk there (λ ns. ShowsIn handle ns.items parts)
    → (xs : List Exchange) → Tries key (resolution handle indexes []) (Some came) xs → TriesReading key handle indexes (option_map (λ ns. ns.items) (result_ok there)) xs
read_so key handle indexes came parts (Ok ns) seen shows xs tried = read_shown key handle indexes ns.items came xs (parts, seen, shows) tried
read_so key handle indexes came parts (Err e) seen shows xs tried = read_none key handle indexes (Some came) xs tried

pub read_by : {E : Type 0} (key : Key) (handle sent indexes : List ℕ) (came : Delivery) (parts : ReplyParts) (there : Result (Vec ℕ) E) → sent ≡ handle → SpellsReply came.wire came.message parts → IfOk there (λ ns. ShowsIn sent ns.items parts)
    → (xs : List Exchange) → Tries key (resolution handle indexes []) (Some came) xs → TriesReading key handle indexes (option_map (λ ns. ns.items) (result_ok there)) xs
read_by key handle sent indexes came parts there same seen shows xs tried = read_so key handle indexes came parts there seen (subst (λ h. IfOk there (λ ns. ShowsIn h ns.items parts)) same shows) xs tried

-- ---- one suffix

pub nothing_minted : {E : Type 0} (key : Key) (front : List ℕ) (vs : List Value) (result : Result (Option Answer) E) → IfOk result (λ made. MatchOption made ⊥ (λ answer. says_done answer.status ≡ false)) → MintsOnce key front vs result []
nothing_minted key front vs (Ok None) h = absurd h
nothing_minted key front vs (Ok (Some answer)) h = ((false, refl), h)
nothing_minted key front vs (Err e) h = ((false, refl), tt)

pub minted : {E : Type 0} (key : Key) (front : List ℕ) (vs : List Value) (result : Result (Option Answer) E) (xs : List Exchange) (whole : Bool) → Mints key front vs xs whole → IfOk result (λ made. MatchOption made ⊥ (λ answer. says_done answer.status ≡ whole)) → MintsOnce key front vs result xs
minted key front vs (Ok None) xs whole m h = absurd h
minted key front vs (Ok (Some answer)) xs whole m h = ((whole, m), subst (Mints key front vs xs) (sym h) m)
minted key front vs (Err e) xs whole m h = ((whole, m), tt)

pub existed : (E : Type 0) (key : Key) (front : List ℕ) (vs : List Value) (xs : List Exchange) → AllExist key front vs xs → MintsOnce {E = E} key front vs (Ok None) xs
existed E key front vs xs h = ((false, none_minted key front vs xs h), h)

pub named : (read : Result (List ℕ) NameFault) (name octets : List ℕ) → read ≡ Ok name → MatchResult read (λ n. (n ≡ octets) × IsHandle octets) (λ _. ¬ (IsHandle octets)) → name ≡ octets
named read name octets is h = let found = subst (λ r. MatchResult r (λ n. (n ≡ octets) × IsHandle octets) (λ _. ¬ (IsHandle octets))) is h in found.0

pub mint_told : (key : Key) (front : List ℕ) (vs : List Value) (made : Option Answer) (answer : Answer) (xs : List Exchange) → made ≡ Some answer → TellsMint key front vs xs made → Mints key front vs xs (says_done answer.status)
mint_told key front vs made answer xs is h = subst (TellsMint key front vs xs) is h

pub existing : {A : Type 0} (key : Key) (one next : Operation) (told : Result A ChangeFault) (code : ℕ) (xs : List Exchange) → one ≡ next → told ≡ Err (Code code) → code ≡ response_number HandleAlreadyExists → Makes key one told xs → Makes {A = A} key next (Err (Code (response_number HandleAlreadyExists))) xs
existing {A} key one next told code xs same is exists makes =
    subst (λ n. Makes {A = A} key next (Err (Code n)) xs) exists (subst (λ t. Makes {A = A} key next t xs) is (subst (λ o. Makes {A = A} key o told xs) same makes))
