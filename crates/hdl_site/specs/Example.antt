-- A site, octet by octet: TCP and UDP on 2641 of 192.0.2.7.
use Rattle.std.specs.Prelude.{ℕ, List, [], ◌∷◌}
use Rattle.hdl_site.specs.declared.info.SiteInfo.{SiteInfo}
use Rattle.hdl_site.specs.Making.{behind_zeros}

abbrev pub example_site : SiteInfo
example_site = record {
  form = 1;
  major = 2;
  minor = 1;
  serial = 1;
  primary = 128;
  hash_option = 2;
  hash_filter = [];
  attributes = [];
  servers = record {
    number = 1;
    address = behind_zeros (192 ∷ 0 ∷ 2 ∷ 7 ∷ []);
    key = [];
    interfaces = record { serves = 3; protocol = 1; port = 2641 } ∷ record { serves = 2; protocol = 0; port = 2641 } ∷ [];
  } ∷ [];
}

abbrev pub example_octets : List ℕ
example_octets =
    0 ∷ 1 ∷ 2 ∷ 1 ∷ 0 ∷ 1 ∷ 0x80 ∷ 2 ∷ 0 ∷ 0 ∷ 0 ∷ 0 ∷ 0 ∷ 0 ∷ 0 ∷ 0 ∷ 0 ∷ 0 ∷ 0 ∷ 1
    ∷ 0 ∷ 0 ∷ 0 ∷ 1 ∷ 0 ∷ 0 ∷ 0 ∷ 0 ∷ 0 ∷ 0 ∷ 0 ∷ 0 ∷ 0 ∷ 0 ∷ 0 ∷ 0 ∷ 192 ∷ 0 ∷ 2 ∷ 7
    ∷ 0 ∷ 0 ∷ 0 ∷ 0 ∷ 0 ∷ 0 ∷ 0 ∷ 2 ∷ 3 ∷ 1 ∷ 0 ∷ 0 ∷ 0x0a ∷ 0x51 ∷ 2 ∷ 0 ∷ 0 ∷ 0 ∷ 0x0a ∷ 0x51 ∷ []
