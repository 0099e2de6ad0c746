-- What is named is what the peer itself asked.
use Rattle.std.proofs.Common.{◌≡◌, ◌⊎◌, inl, inr, ℕ, ◌<◌, Bool, true, false, List, length, get_or, Option, Some, None, Result, Ok, Err, refl, ap, sym, subst, ◌∙◌}
use Rattle.std.specs.Prelude.{◌==◌, ◌&&◌, IfOk, IfSome}
use Rattle.std.specs.List.{position}
use Rattle.std.proofs.lemmas.Bool.{eqb-true}
use Rattle.std.proofs.lemmas.List.Quantifiers.{position-Some}
use Rattle.hdl_audit.specs.declared.answer.ReplySummary.{ReplySummary}
use Rattle.hdl_audit.specs.declared.follower.Challenged.{Challenged}
use Rattle.hdl_audit.specs.declared.question.RequestKind.{RequestKind}
use Rattle.hdl_audit.specs.declared.question.RequestKind.TheVariants.{Change, Other}
use Rattle.hdl_audit.specs.declared.question.UnansweredFrame.{UnansweredFrame}
use Rattle.hdl_audit.specs.Naming.{IsAsked, IsChallenged, IsOwnChallenge, IsPending, handle_octets}
use Rattle.hdl_audit.specs.ReplySummary.{is_challenge}

both_true : (a b : Bool) → (a && b) ≡ true → (a ≡ true) × (b ≡ true)
both_true true b h = (refl, h)
both_true false b h = absurd (cc)

-- the change at the place that was found is of this peer and session
pub pending_at : (xs : List Challenged) (i peer session : ℕ) (one : Challenged) → Some i ≡ position (λ x. x.peer == peer && x.session == session) xs → one ≡ get_or xs i one → IsPending xs peer session one.operation (handle_octets one.handle)
pending_at xs i peer session one found is =
    let p : Challenged → Bool = λ x. x.peer == peer && x.session == session in
    let w = position-Some p xs i one (sym found) in
    let yes : p one ≡ true = subst (λ (x : Challenged). p x ≡ true) (sym is) w.1 in
    let both = both_true (one.peer == peer) (one.session == session) yes in
    (one, (i, w.0, sym is), eqb-true one.peer peer both.0, eqb-true one.session session both.1, refl, refl)

pub challenged_by : (request_kind : RequestKind) (peer : ℕ) (answer : ReplySummary) (x y : Challenged) → x ≡ y → request_kind ≡ Change y.operation y.handle → y.peer ≡ peer → y.session ≡ answer.session → is_challenge answer ≡ true → IsChallenged request_kind peer answer x
challenged_by request_kind peer answer x y same asked own session told = subst (IsChallenged request_kind peer answer) (sym same) (asked, own, session, told)

no_other : (request_kind : RequestKind) (operation : ℕ) (x : Challenged) → request_kind ≡ Other operation → request_kind ≡ Change x.operation x.handle → ⊥
no_other request_kind operation x other change = cc

pub own_challenge : (frames : List UnansweredFrame) (peer : ℕ) (told : Option ReplySummary) (answer : ReplySummary) (request_kind : RequestKind) (x : Challenged)
    → Some answer ≡ told → (request_kind ≡ Other 0) ⊎ IsAsked frames peer request_kind → IsChallenged request_kind peer answer x → IsOwnChallenge frames peer told x
own_challenge frames peer told answer request_kind x is (inl other) new = absurd (no_other request_kind 0 x other new.0)
own_challenge frames peer told answer request_kind x is (inr asked) new = subst (λ t. IsOwnChallenge frames peer t x) is (request_kind, asked, new)

pub peer_of : {E : Type 0} (asked : Result (Option UnansweredFrame) E) (peer : ℕ) (x : UnansweredFrame) → asked ≡ Ok (Some x) → IfOk asked (λ o. IfSome o (λ question. question.peer ≡ peer)) → x.peer ≡ peer
peer_of asked peer x is own = subst (λ r. IfOk r (λ o. IfSome o (λ question. question.peer ≡ peer))) is own
