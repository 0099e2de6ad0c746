-- The permissions of a value and of an administrator, and the class of a value.
use Rattle.std.specs.Prelude.{ℕ, zero, suc, ◌+◌, ◌/◌, ◌%◌, Bool, not, ◌==◌, ◌&&◌, if◌then◌else◌, List, [], ◌∷◌, bit_and}
use Rattle.hdl_value.specs.declared.value.Value.{Value}
use Rattle.hdl_value.specs.declared.permission.Permission.{Permission}
use Rattle.hdl_value.specs.declared.permission.Permission.TheVariants.{PublicWrite, PublicRead, AdminWrite, AdminRead}
use Rattle.hdl_value.specs.declared.permission.Class.{Class}
use Rattle.hdl_value.specs.declared.permission.Class.TheVariants.{Public, Kept, Hidden}
use Rattle.hdl_value.specs.declared.permission.AdminPermission.{AdminPermission}
use Rattle.hdl_value.specs.declared.permission.AdminPermission.TheVariants.{AddHandle, DeleteHandle, AddNamingAuthority, DeleteNamingAuthority, ModifyValue, DeleteValue, AddValue, ModifyAdmin, RemoveAdmin, AddAdmin, AuthorizedRead, ListHandle}

-- one of the bits is set
abbrev pub has_bit : ℕ → ℕ → Bool
has_bit number bit = not (bit_and number bit == 0)

-- this number of binary digits of a number, the lowest first
abbrev pub bits : ℕ → ℕ → List ℕ
bits zero n = []
bits (suc k) n = (48 + n % 2) ∷ bits k (n / 2)

-- the bit of each permission in a value's octet
abbrev pub permission_bit : Permission → ℕ
permission_bit PublicWrite = 0x01
permission_bit PublicRead = 0x02
permission_bit AdminWrite = 0x04
permission_bit AdminRead = 0x08

-- the value has this permission
abbrev pub permits : Value → Permission → Bool
permits v permission = has_bit v.permissions (permission_bit permission)

-- ---- the class of a value: who may read it

-- anybody
abbrev pub is_public : Value → Bool
is_public v = permits v PublicRead

-- an administrator alone
abbrev pub is_kept : Value → Bool
is_kept v = not (permits v PublicRead) && permits v AdminRead

-- public, kept, or hidden: read by nobody
abbrev pub class_of : Value → Class
class_of v = if is_public v then Public else if is_kept v then Kept else Hidden

-- ---- administrators

-- the bit of each permission in an administrator's mask
abbrev pub admin_bit : AdminPermission → ℕ
admin_bit AddHandle = 0x0001
admin_bit DeleteHandle = 0x0002
admin_bit AddNamingAuthority = 0x0004
admin_bit DeleteNamingAuthority = 0x0008
admin_bit ModifyValue = 0x0010
admin_bit DeleteValue = 0x0020
admin_bit AddValue = 0x0040
admin_bit ModifyAdmin = 0x0080
admin_bit RemoveAdmin = 0x0100
admin_bit AddAdmin = 0x0200
admin_bit AuthorizedRead = 0x0400
admin_bit ListHandle = 0x0800

-- the mask has this permission
abbrev pub mask_permits : ℕ → AdminPermission → Bool
mask_permits mask permission = has_bit mask (admin_bit permission)
