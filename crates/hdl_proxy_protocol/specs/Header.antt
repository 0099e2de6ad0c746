-- The header that a proxy puts before the octets of a connection: version 2 of the PROXY protocol, section 2.2 of its specification.
use Rattle.std.specs.Prelude.{◌≡◌, ℕ, ◌+◌, ◌==◌, nat_lt, Bool, not, ◌&&◌, ◌||◌, if◌then◌else◌, List, [], ◌∷◌, length, take, drop, slice_index, Option, Some, None, IsNone, IsSomeAnd, IsTrue, IsFalse}
use Rattle.std.specs.List.{starts_with}
use Rattle.std.specs.Int.{w16, from_be_bytes}
use Rattle.std.specs.Net.Addr.{ipv4_octets, ipv6_segments, segments_of, IsV4And, IsV6And}
use Rattle.std.specs.Net.Socket.{socket_ip, IsPlainSocket}
use Rattle.std.specs.declared.net.socket_addr.SocketAddr.{SocketAddr}
use Rattle.hdl_proxy_protocol.specs.declared.header.TheConstants.{START_LEN, HEADER_MOST}
use Rattle.hdl_proxy_protocol.specs.declared.header.HeaderFault.{HeaderFault}
use Rattle.hdl_proxy_protocol.specs.declared.header.HeaderFault.TheVariants.{Signature, Command, TooLong, Short}
use Rattle.hdl_proxy_protocol.specs.declared.header.HeaderStep.{HeaderStep}
use Rattle.hdl_proxy_protocol.specs.declared.header.HeaderStep.TheVariants.{More, Whole}

-- CR LF CR LF NUL CR LF "QUIT" LF
abbrev pub SIGNATURE : List ℕ
SIGNATURE = 13 ∷ 10 ∷ 13 ∷ 10 ∷ 0 ∷ 13 ∷ 10 ∷ 81 ∷ 85 ∷ 73 ∷ 84 ∷ 10 ∷ []

-- the number in the two octets from place i on, highest octet first
abbrev pub u16_at : List ℕ → ℕ → ℕ
u16_at s i = from_be_bytes w16 (slice_index s i ∷ slice_index s (i + 1) ∷ [])

-- version and command, one octet: the proxy speaks for itself, or for a client
abbrev pub is_local : List ℕ → Bool
is_local s = slice_index s 12 == 0x20

abbrev pub is_for_client : List ℕ → Bool
is_for_client s = slice_index s 12 == 0x21

-- family and transport, one octet: TCP over IPv4, or over IPv6
abbrev pub is_v4 : List ℕ → Bool
is_v4 s = is_for_client s && slice_index s 13 == 0x11

abbrev pub is_v6 : List ℕ → Bool
is_v6 s = is_for_client s && slice_index s 13 == 0x21

-- what follows the first 16 octets, and how much of it two addresses and two ports take
abbrev pub rest_len : List ℕ → ℕ
rest_len s = u16_at s 14

abbrev pub addresses_len : List ℕ → ℕ
addresses_len s = if is_v4 s then 12 else if is_v6 s then 36 else 0

abbrev pub header_len : List ℕ → ℕ
header_len s = START_LEN + rest_len s

-- what is wrong with a header of which the first 16 octets are there: the first in this order
unfoldable pub fault_of : List ℕ → Option HeaderFault
fault_of s =
    if not (starts_with ◌==◌ s SIGNATURE) then Some Signature
    else if not (is_local s || is_for_client s) then Some Command
    else if nat_lt HEADER_MOST (header_len s) then Some TooLong
    else if nat_lt (rest_len s) (addresses_len s) then Some Short
    else None

-- the client's address and port, IPv4 or IPv6, behind the first 16 octets; those of the server stand beside them
abbrev pub IsV4Client : List ℕ → SocketAddr → Type 0
IsV4Client s a = IsV4And (socket_ip a) (λ ip. ipv4_octets ip ≡ take 4 (drop 16 s)) × IsPlainSocket a (u16_at s 24)

abbrev pub IsV6Client : List ℕ → SocketAddr → Type 0
IsV6Client s a = IsV6And (socket_ip a) (λ ip. ipv6_segments ip ≡ segments_of (take 16 (drop 16 s))) × IsPlainSocket a (u16_at s 48)

-- the client for whom the proxy speaks; none where it speaks for itself, or of a client by another family
pub record IsClient (s : List ℕ) (client : Option SocketAddr) : Type 0 where
  pub v4 : IsTrue (is_v4 s) → IsSomeAnd client (λ a. IsV4Client s a)
  pub v6 : IsTrue (is_v6 s) → IsSomeAnd client (λ a. IsV6Client s a)
  pub none : IsFalse (is_v4 s || is_v6 s) → IsNone client

-- the header is whole, and the fact holds of its client
abbrev pub IsWholeAnd : HeaderStep → (Option SocketAddr → Type 0) → Type 0
IsWholeAnd (More n) P = ⊥
IsWholeAnd (Whole client) P = P client
