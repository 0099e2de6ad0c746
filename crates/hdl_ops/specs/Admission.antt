-- What is tested before the table is looked at.
use Rattle.std.specs.Prelude.{ℕ, List, [], ◌∷◌, Bool, false, not, ◌==◌, ◌||◌, ◌&&◌, Option, Some, None, if◌then◌else◌, is_none, length, nat_lt}
use Rattle.std.specs.List.{list_any, list_all}
use Rattle.hdl_limits.specs.declared.TheConstants.{WRITTEN_MAX}
use Rattle.hdl_name.specs.Name as name
use Rattle.hdl_name.specs.Tests.{is_handle}
use Rattle.hdl_value.specs.declared.value.Value.{Value}
use Rattle.hdl_value.specs.Refs.{is_admin}
use Rattle.hdl_value.specs.Tests.{is_sound}
use Rattle.hdl_auth.specs.declared.algorithm.Algorithm.{Algorithm}
use Rattle.hdl_auth.specs.declared.algorithm.Algorithm.TheVariants.{Sha1}
use Rattle.hdl_msg.specs.Codes.{response_number}
use Rattle.hdl_msg.specs.declared.codes.ResponseCode.TheVariants.{OperationDenied, InvalidHandle, ValueInvalid, ServiceReferral}
use Rattle.hdl_msg.specs.Message.{Content, Operation, create, add, remove, modify}
use Rattle.hdl_ops.specs.First.{first}
use Rattle.hdl_ops.specs.Requests.{sent_handle, is_unused, creates_or_deletes, is_list, stored_operation}

-- the canonical handle that octets name
unfoldable pub handle_in : List ℕ → Option (List ℕ)
handle_in octets = if is_handle octets then Some (name.canonical octets) else None

-- ---- what a write names

-- a key stands twice
abbrev pub has_twins : {A : Type 0} → (A → ℕ) → List A → Bool
has_twins key [] = false
has_twins key (x ∷ xs) = list_any (λ y. key y == key x) xs || has_twins key xs

-- nothing, too many, or one twice
abbrev pub is_bad_list : {A : Type 0} → (A → ℕ) → List A → Bool
is_bad_list key xs = length xs == 0 || nat_lt WRITTEN_MAX (length xs) || has_twins key xs

-- a bad list of indexes, or a value that breaks the limits or whose data is bad
unfoldable pub are_bad : List Value → Bool
are_bad vs = is_bad_list (λ v. v.index) vs || not (list_all is_sound vs)

-- a handle is made with an HS_ADMIN value at least
abbrev pub is_bad_write : Operation → Bool
is_bad_write (create handle vs) = are_bad vs || not (list_any is_admin vs)
is_bad_write (add handle vs) = are_bad vs
is_bad_write (modify handle vs) = are_bad vs
is_bad_write (remove handle is) = is_bad_list (λ i. i) is
is_bad_write _ = false

-- ---- the hash function

-- the hash function of a request, where prefixes have these: that of the prefix of the handle that it names
abbrev pub request_algorithm : (List ℕ → Algorithm) → Content → Algorithm
request_algorithm algorithms r = if is_handle (sent_handle r.operation) then algorithms (name.prefix (sent_handle r.operation)) else Sha1

-- ---- the table

-- an administrative handle is named
abbrev pub is_under_root : Operation → Bool
is_under_root o = name.is_admin (sent_handle o)

unfoldable pub refusal : (List ℕ → Bool) → Content → Option ℕ
refusal hosts r = first
    ((is_unused r.operation, response_number OperationDenied)
    ∷ (is_none (handle_in (sent_handle r.operation)), response_number InvalidHandle)
    ∷ (is_list r.operation && not (is_under_root r.operation), response_number InvalidHandle)
    ∷ (creates_or_deletes r.operation && is_under_root r.operation, response_number OperationDenied)
    ∷ (not (hosts (name.prefix (sent_handle r.operation))), response_number ServiceReferral)
    ∷ (is_bad_write (stored_operation r), response_number ValueInvalid)
    ∷ [])
