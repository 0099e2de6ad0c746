-- How long digests are.
use Rattle.std.proofs.Common.{◌≡◌, ◌≤◌, ℕ, List, length, refl, arith}
use Rattle.sha1.specs.Sha1.{sha1}
use Rattle.sha1.specs.Sha1 as first
use Rattle.sha2.specs.Sha256.{sha256}
use Rattle.sha2.specs.Sha256 as second
use Rattle.hdl_auth.specs.declared.algorithm.Algorithm.{Algorithm}
use Rattle.hdl_auth.specs.declared.algorithm.Algorithm.TheVariants as algorithm
use Rattle.hdl_auth.specs.Digest.{size_of, digest_of, octets_of, digest_spelling}

length-sha1 : (m : List ℕ) → length (sha1 m) ≡ 20
unfolding sha1 first.digest_bytes
length-sha1 m = refl

length-sha256 : (m : List ℕ) → length (sha256 m) ≡ 32
unfolding sha256 second.digest_bytes
length-sha256 m = refl

pub length-digest : (a : Algorithm) (m : List ℕ) → length (octets_of (digest_of a m)) ≡ size_of a
length-digest algorithm.Sha1 m = length-sha1 m
length-digest algorithm.Sha256 m = length-sha256 m

-- the octet and the digest have 33 octets at most
pub digest_short : (a : Algorithm) (m : List ℕ) → length (digest_spelling (digest_of a m)) ≤ 33
digest_short algorithm.Sha1 m = let len = length-sha1 m in omega (arith, len)
digest_short algorithm.Sha256 m = let len = length-sha256 m in omega (arith, len)
