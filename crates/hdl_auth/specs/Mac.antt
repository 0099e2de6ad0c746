-- The keyed digest of challenge and response (docs/PROTOCOL.md, "Challenge and response").
use Rattle.std.specs.Prelude.{ℕ, List, [], ◌∷◌, ◌++◌, ◌+◌, Bool, true, false, ◌==◌, ◌&&◌, if◌then◌else◌, length, bytes_eq}
use Rattle.std.specs.List.{starts_with}
use Rattle.hdl_auth.specs.declared.Verdict.{Verdict}
use Rattle.hdl_auth.specs.declared.Verdict.TheVariants.{Good, BadForm, Wrong}
use Rattle.hdl_auth.specs.declared.algorithm.Algorithm.{Algorithm}
use Rattle.hdl_auth.specs.declared.algorithm.Digest.{Digest}
use Rattle.hdl_auth.specs.Digest.{octet_of, size_of, digest_of, algorithm_of, octets_of, digest_spelling}

-- H(key ++ nonce ++ digest ++ key), by the digest's hash function
abbrev pub mac_of : List ℕ → List ℕ → Digest → Digest
mac_of key nonce d = digest_of (algorithm_of d) (key ++ nonce ++ octets_of d ++ key)

-- the response that answers a challenge: the keyed digest in its encoding
abbrev pub right_response : List ℕ → List ℕ → Digest → List ℕ
right_response key nonce d = digest_spelling (mac_of key nonce d)

-- the octet of the hash function, and as many octets as its digests have
abbrev pub has_response_form : Algorithm → List ℕ → Bool
has_response_form algorithm response = starts_with ◌==◌ response (octet_of algorithm ∷ []) && length response == size_of algorithm + 1

abbrev pub is_right_response : List ℕ → List ℕ → Digest → List ℕ → Bool
is_right_response key nonce d response = bytes_eq response (right_response key nonce d)

abbrev pub is_good : Verdict → Bool
is_good Good = true
is_good BadForm = false
is_good Wrong = false

-- the verdict on a response to a challenge
abbrev pub verdict : List ℕ → List ℕ → Digest → List ℕ → Verdict
verdict key nonce d response =
    if has_response_form (algorithm_of d) response
    then (if is_right_response key nonce d response then Good else Wrong)
    else BadForm
