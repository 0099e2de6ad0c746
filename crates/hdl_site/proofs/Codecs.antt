-- The readers of a site and of its parts: what is read is written there, and what is written is read again.
use Rattle.std.proofs.Common.{ℕ, ◌^◌, ◌<◌, List, [], ◌∷◌, refl}
use Rattle.std.specs.Int.{w16, w32, to_be_bytes}
use Rattle.hdl_value.specs.Reading.{number_at, octets_at, octet_at, string_at, IsCodec}
use Rattle.hdl_value.specs.Spelling.{string, IsString}
use Rattle.hdl_value.proofs.FieldLaws.{IsLong, wide16, wide32}
use Rattle.hdl_value.proofs.Codecs.{number_codec, octets_codec, octet_codec, string_codec, pair_codec, seen_codec, counted_codec}
use Rattle.hdl_value.proofs.Values.{refit}
use Rattle.hdl_site.specs.Info.{interface_of, interface_parts, interface_at, interface, interfaces_at, interfaces, attribute_of, attribute_at, attribute, attributes_at, attributes, identity_layout, identity_at, server_of, server_parts, server_at, server, servers_at, servers, Head, head_at, head, head_of, site_of, site_at, site_octets, AreFew, InterfaceFits, AttributeFits, ServerFits, SiteFits}

abbrev IsOctet : ℕ → Type 0
IsOctet n = n < 2 ^ 8

abbrev IsWord : ℕ → Type 0
IsWord n = n < 2 ^ 16

abbrev IsNumber : ℕ → Type 0
IsNumber n = n < 2 ^ 32

number32 : IsCodec (number_at w32) (to_be_bytes w32) IsNumber
number32 = number_codec w32 (2 ^ 32) wide32

number16 : IsCodec (number_at w16) (to_be_bytes w16) IsWord
number16 = number_codec w16 (2 ^ 16) wide16

pub interface_codec : IsCodec interface_at interface InterfaceFits
unfolding interface_at
interface_codec =
    let port_on = pair_codec octet_at (λ b. b ∷ []) IsOctet (number_at w32) (to_be_bytes w32) IsNumber octet_codec number32 in
    let all = pair_codec octet_at (λ b. b ∷ []) IsOctet _ _ _ octet_codec port_on in
    refit interface_at interface _ InterfaceFits (λ i h. record { serves = h.0; protocol = h.1.0; port = h.1.1 }) (λ i h. (h.serves, (h.protocol, h.port)))
    (seen_codec _ _ _ interface_of interface_parts (λ _. refl) (λ _. refl) all)

pub interfaces_codec : IsCodec interfaces_at interfaces (AreFew InterfaceFits)
unfolding interfaces_at
interfaces_codec = counted_codec interface_at interface InterfaceFits interface_codec

pub attribute_codec : IsCodec attribute_at attribute AttributeFits
unfolding attribute_at
attribute_codec =
    let all = pair_codec string_at string IsString string_at string IsString string_codec string_codec in
    refit attribute_at attribute _ AttributeFits (λ a h. record { name = h.0; text = h.1 }) (λ a h. (h.name, h.text))
    (seen_codec _ _ _ attribute_of (λ a. (a.name, a.text)) (λ _. refl) (λ _. refl) all)

pub attributes_codec : IsCodec attributes_at attributes (AreFew AttributeFits)
unfolding attributes_at
attributes_codec = counted_codec attribute_at attribute AttributeFits attribute_codec

abbrev IdentityFits : ℕ × (List ℕ × List ℕ) → Type 0
IdentityFits x = IsNumber x.0 × (IsLong 16 x.1.0 × IsString x.1.1)

identity_codec : IsCodec identity_at (λ x. identity_layout.write x) IdentityFits
unfolding identity_at
identity_codec =
    let key_on = pair_codec (octets_at 16) (λ t. t) (IsLong 16) string_at string IsString (octets_codec 16) string_codec in
    pair_codec (number_at w32) (to_be_bytes w32) IsNumber _ _ _ number32 key_on

pub server_codec : IsCodec server_at server ServerFits
unfolding server_at
server_codec =
    let all = pair_codec identity_at (λ x. identity_layout.write x) IdentityFits interfaces_at interfaces (AreFew InterfaceFits) identity_codec interfaces_codec in
    refit server_at server _ ServerFits (λ s h. record { number = h.0.0; address = h.0.1.0; key = h.0.1.1; interfaces = h.1 }) (λ s h. ((h.number, (h.address, h.key)), h.interfaces))
    (seen_codec _ _ _ server_of server_parts (λ _. refl) (λ _. refl) all)

pub servers_codec : IsCodec servers_at servers (AreFew ServerFits)
unfolding servers_at
servers_codec = counted_codec server_at server ServerFits server_codec

abbrev HeadFits : Head → Type 0
HeadFits h = IsWord h.0 × (IsOctet h.1.0 × (IsOctet h.1.1.0 × (IsWord h.1.1.1.0 × (IsOctet h.1.1.1.1.0 × (IsOctet h.1.1.1.1.1.0 × IsString h.1.1.1.1.1.1)))))

head_codec : IsCodec head_at head HeadFits
unfolding head_at
head_codec =
    let filter_on = pair_codec octet_at (λ b. b ∷ []) IsOctet string_at string IsString octet_codec string_codec in
    let option_on = pair_codec octet_at (λ b. b ∷ []) IsOctet _ _ _ octet_codec filter_on in
    let serial_on = pair_codec (number_at w16) (to_be_bytes w16) IsWord _ _ _ number16 option_on in
    let minor_on = pair_codec octet_at (λ b. b ∷ []) IsOctet _ _ _ octet_codec serial_on in
    let major_on = pair_codec octet_at (λ b. b ∷ []) IsOctet _ _ _ octet_codec minor_on in
    pair_codec (number_at w16) (to_be_bytes w16) IsWord _ _ _ number16 major_on

pub site_codec : IsCodec site_at site_octets SiteFits
unfolding site_at site_octets
site_codec =
    let lists = pair_codec attributes_at attributes (AreFew AttributeFits) servers_at servers (AreFew ServerFits) attributes_codec servers_codec in
    let all = pair_codec head_at head HeadFits _ _ _ head_codec lists in
    refit site_at site_octets _ SiteFits
    (λ s h. record { form = h.0.0; version = (h.0.1.0, h.0.1.1.0); serial = h.0.1.1.1.0; primary = h.0.1.1.1.1.0; hash = (h.0.1.1.1.1.1.0, h.0.1.1.1.1.1.1); attributes = h.1.0; servers = h.1.1 })
    (λ s h. ((h.form, (h.version.0, (h.version.1, (h.serial, (h.primary, (h.hash.0, h.hash.1)))))), (h.attributes, h.servers)))
    (seen_codec _ _ _ site_of (λ s. (head_of s, (s.attributes, s.servers))) (λ _. refl) (λ _. refl) all)
