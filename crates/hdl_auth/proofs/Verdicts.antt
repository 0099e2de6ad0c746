-- What a verdict says of a response.
use Rattle.std.proofs.Common.{◌≡◌, ◌∙◌, ℕ, Bool, true, false, List, refl, sym, ap, subst}
use Rattle.std.specs.Prelude.{if◌then◌else◌}
use Rattle.std.proofs.lemmas.Slice.Eq.{bytes_eq-Decides}
use Rattle.sha1.specs.Sha1.{sha1}
use Rattle.sha1.specs.Sha1 as first
use Rattle.sha2.specs.Sha256.{sha256}
use Rattle.sha2.specs.Sha256 as second
use Rattle.hdl_auth.specs.declared.Verdict.TheVariants.{Good, BadForm, Wrong}
use Rattle.hdl_auth.specs.declared.algorithm.Digest.{Digest}
use Rattle.hdl_auth.specs.declared.algorithm.Digest.TheVariants as digest
use Rattle.hdl_auth.specs.Digest.{algorithm_of}
use Rattle.hdl_auth.specs.Mac.{has_response_form, right_response, is_right_response, is_good, verdict}

-- the right response has the form of one
right_form : (key nonce : List ℕ) (d : Digest) → has_response_form (algorithm_of d) (right_response key nonce d) ≡ true
unfolding sha1 first.digest_bytes sha256 second.digest_bytes
right_form key nonce (digest.Sha1 octets) = refl
right_form key nonce (digest.Sha256 octets) = refl

chosen : (form right : Bool) → (right ≡ true → form ≡ true) → is_good (if form then (if right then Good else Wrong) else BadForm) ≡ right
chosen true true h = refl
chosen true false h = refl
chosen false true h = h refl
chosen false false h = refl

-- a response is good just where it is the right one
pub good_is_right : (key nonce : List ℕ) (d : Digest) (response : List ℕ) → is_good (verdict key nonce d response) ≡ is_right_response key nonce d response
good_is_right key nonce d response =
    chosen (has_response_form (algorithm_of d) response) (is_right_response key nonce d response)
    (λ e. subst (λ (r : List ℕ). has_response_form (algorithm_of d) r ≡ true) (sym ((bytes_eq-Decides response (right_response key nonce d)).0 e)) (right_form key nonce d))

-- no string of another form is the right one
pub formless_is_wrong : (key nonce : List ℕ) (d : Digest) (response : List ℕ) → has_response_form (algorithm_of d) response ≡ false → false ≡ is_right_response key nonce d response
formless_is_wrong key nonce d response e =
    sym (ap (λ (form : Bool). is_good (if form then (if is_right_response key nonce d response then Good else Wrong) else BadForm)) e) ∙ good_is_right key nonce d response
