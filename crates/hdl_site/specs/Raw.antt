-- What stands in octets, as it is read.
use Rattle.std.specs.Prelude.{ℕ, List}
use Rattle.hdl_site.specs.declared.reading.RawIdentity.{RawIdentity}
use Rattle.hdl_site.specs.declared.reading.RawHead.{RawHead}
use Rattle.hdl_site.specs.Info.{Head}

-- the number, the address and the public key that stand there
abbrev pub identity_view : RawIdentity → ℕ × (List ℕ × List ℕ)
identity_view i = (i.number, (i.address, i.key.now))

-- the head that stands there
abbrev pub head_view : RawHead → Head
head_view h = (h.form, (h.major, (h.minor, (h.serial, (h.primary, (h.hash_option, h.hash_filter.now))))))
