-- Digests by hash function, and their encoding (docs/PROTOCOL.md, "Challenge and response").
use Rattle.std.specs.Prelude.{ℕ, List, ◌∷◌}
use Rattle.sha1.specs.Sha1.{sha1}
use Rattle.sha2.specs.Sha256.{sha256}
use Rattle.hdl_auth.specs.declared.algorithm.Algorithm.{Algorithm}
use Rattle.hdl_auth.specs.declared.algorithm.Algorithm.TheVariants as algorithm
use Rattle.hdl_auth.specs.declared.algorithm.Digest.{Digest}
use Rattle.hdl_auth.specs.declared.algorithm.Digest.TheVariants as digest

-- the octet that names a hash function
abbrev pub octet_of : Algorithm → ℕ
octet_of algorithm.Sha1 = 2
octet_of algorithm.Sha256 = 3

-- how many octets its digests have
abbrev pub size_of : Algorithm → ℕ
size_of algorithm.Sha1 = 20
size_of algorithm.Sha256 = 32

-- the digest of octets
abbrev pub digest_of : Algorithm → List ℕ → Digest
digest_of algorithm.Sha1 octets = digest.Sha1 (sha1 octets)
digest_of algorithm.Sha256 octets = digest.Sha256 (sha256 octets)

-- the hash function that made it
abbrev pub algorithm_of : Digest → Algorithm
algorithm_of (digest.Sha1 octets) = algorithm.Sha1
algorithm_of (digest.Sha256 octets) = algorithm.Sha256

abbrev pub octets_of : Digest → List ℕ
octets_of (digest.Sha1 octets) = octets
octets_of (digest.Sha256 octets) = octets

-- the octet of the hash function, and the digest's octets
abbrev pub digest_spelling : Digest → List ℕ
digest_spelling d = octet_of (algorithm_of d) ∷ octets_of d
