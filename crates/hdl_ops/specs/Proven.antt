-- The table of decision for a request that comes back with a proof.
use Rattle.std.specs.Prelude.{◌≡◌, ℕ, ◌+◌, List, [], ◌∷◌, ◌++◌, Bool, false, not, ◌&&◌, ◌||◌, Option, Some, None, if◌then◌else◌, option_map, is_some, is_none, length, nat_lt, bytes_eq, codes}
use Rattle.std.specs.List.{list_any, list_all}
use Rattle.hdl_limits.specs.declared.TheConstants.{VALUES_MAX}
use Rattle.hdl_name.specs.Name as name
use Rattle.hdl_value.specs.declared.value.Value.{Value}
use Rattle.hdl_value.specs.declared.permission.Permission.TheVariants.{AdminWrite}
use Rattle.hdl_value.specs.declared.permission.AdminPermission.{AdminPermission}
use Rattle.hdl_value.specs.declared.permission.AdminPermission.TheVariants.{AddHandle, DeleteHandle, ModifyValue, DeleteValue, AddValue, ModifyAdmin, RemoveAdmin, AddAdmin, AuthorizedRead, ListHandle}
use Rattle.hdl_value.specs.Data.{secret_key_kind}
use Rattle.hdl_value.specs.Permission.{permits, is_public, is_kept, mask_permits}
use Rattle.hdl_value.specs.Place.{Place}
use Rattle.hdl_value.specs.Refs.{is_admin, is_secret_key}
use Rattle.hdl_rows.specs.Table.{Table, place, at, value_with}
use Rattle.hdl_reach.specs.Reach.{IsMask}
use Rattle.hdl_auth.specs.declared.algorithm.Digest.{Digest}
use Rattle.hdl_auth.specs.Digest.{algorithm_of}
use Rattle.hdl_auth.specs.Mac.{has_response_form, is_right_response}
use Rattle.hdl_msg.specs.Codes.{response_number}
use Rattle.hdl_msg.specs.declared.codes.ResponseCode.TheVariants.{Success, HandleNotFound, HandleAlreadyExists, ValueNotFound, ValueAlreadyExists, ValueInvalid, NotAuthorized, AccessDenied, AuthenticationFailed, InvalidCredential, UnableToAuthenticate}
use Rattle.hdl_msg.specs.Message.{Content, Operation, resolution, create, delete, add, remove, modify, list}
use Rattle.hdl_ops.specs.First.{first, or_code}
use Rattle.hdl_ops.specs.Admission.{handle_in}
use Rattle.hdl_ops.specs.Requests.{Response, sent_handle, resolves, creates}
use Rattle.hdl_ops.specs.TableViews.{TableView, table_view, asks, passes, passes_at}

-- a challenge response, with the challenge's nonce and the challenged request's digest
pub record Proof : Type 0 where
  pub response : Response
  pub nonce : List ℕ
  pub digest : Digest

-- ---- before administrators are looked for

unfoldable pub code_before_key : TableView → Content → Proof → Option ℕ
code_before_key s r p = first
    ((not (bytes_eq p.response.kind secret_key_kind), response_number UnableToAuthenticate)
    ∷ (not (has_response_form (algorithm_of p.digest) p.response.answer), response_number InvalidCredential)
    ∷ (creates r.operation && s.there, response_number HandleAlreadyExists)
    ∷ (not (creates r.operation) && not s.there, response_number HandleNotFound)
    ∷ [])

-- ---- the administrators

-- the administrative handle of a prefix
abbrev pub admin_octets : List ℕ → List ℕ
admin_octets prefix = codes "0.na/" ++ prefix

-- the handle whose administrators may do it; of a create that of the prefix, unless it would be too long for a name
unfoldable pub target : Operation → Option (List ℕ)
target o = if creates o then handle_in (admin_octets (name.prefix (sent_handle o))) else Some (name.canonical (sent_handle o))

-- the place of the key
abbrev pub key_of : Proof → Option Place
key_of p = option_map (λ h. place h p.response.index) (handle_in p.response.handle)

-- the mask of the key for the target
abbrev pub MaskOf : Table → Option (List ℕ) → Option Place → Option ℕ → Type 0
MaskOf t None k m = m ≡ None
MaskOf t (Some h) None m = m ≡ None
MaskOf t (Some h) (Some k) m = IsMask t h k m

-- the value of the key
abbrev pub value_at : Table → Option Place → Option Value
value_at t None = None
value_at t (Some k) = at t k

-- ---- for an administrator

abbrev pub is_right : Option Value → Proof → Bool
is_right None p = false
is_right (Some v) p = is_right_response v.bytes p.nonce p.digest p.response.answer

abbrev pub misses_at : List Value → ℕ → Bool
misses_at vs i = is_none (value_with i vs)

abbrev pub takes_at : List Value → ℕ → Bool
takes_at vs i = is_some (value_with i vs)

-- a value that is to be written over or away isn't there
abbrev pub misses : Operation → List Value → Bool
misses (remove handle is) vs = list_any (misses_at vs) is
misses (modify handle news) vs = list_any (λ n. misses_at vs n.index) news
misses _ vs = false

-- a value stands where one is to be added
abbrev pub takes : Operation → List Value → Bool
takes (add handle news) vs = list_any (λ n. takes_at vs n.index) news
takes _ vs = false

-- the permission that each named value needs: of another kind for HS_ADMIN values, old or new
abbrev pub add_needs : Value → AdminPermission
add_needs n = if is_admin n then AddAdmin else AddValue

abbrev pub remove_needs : List Value → ℕ → AdminPermission
remove_needs vs i = if passes_at is_admin vs i then RemoveAdmin else DeleteValue

abbrev pub modify_needs : List Value → Value → AdminPermission
modify_needs vs n = if is_admin n || passes_at is_admin vs n.index then ModifyAdmin else ModifyValue

-- the mask has all permissions that the operation needs
abbrev pub is_allowed : Operation → List Value → ℕ → Bool
is_allowed (resolution handle is ts) vs m = mask_permits m AuthorizedRead
is_allowed (create handle news) vs m = mask_permits m AddHandle
is_allowed (delete handle) vs m = mask_permits m DeleteHandle
is_allowed (add handle news) vs m = list_all (λ n. mask_permits m (add_needs n)) news
is_allowed (remove handle is) vs m = list_all (λ i. mask_permits m (remove_needs vs i)) is
is_allowed (modify handle news) vs m = list_all (λ n. mask_permits m (modify_needs vs n)) news
is_allowed (list handle) vs m = mask_permits m ListHandle
is_allowed _ vs m = false

-- administrators may not write the value at this index
abbrev pub is_locked_at : List Value → ℕ → Bool
is_locked_at vs i = not (passes_at (λ v. permits v AdminWrite) vs i)

abbrev pub is_locked : Operation → List Value → Bool
is_locked (remove handle is) vs = list_any (is_locked_at vs) is
is_locked (modify handle news) vs = list_any (λ n. is_locked_at vs n.index) news
is_locked _ vs = false

-- the handle would have more than 1,024 values
abbrev pub overfills : Operation → List Value → Bool
overfills (add handle news) vs = nat_lt VALUES_MAX (length vs + length news)
overfills _ vs = false

-- a resolution asks for the value, and it isn't hidden
abbrev pub is_asked : Content → Value → Bool
is_asked r v = asks r.operation v && (is_public v || is_kept v)

-- with this mask, and this value at the key's place
unfoldable pub code_after_key : TableView → Content → Proof → ℕ → Option Value → ℕ
code_after_key s r p mask key = or_code (first
    ((not (passes is_secret_key key), response_number UnableToAuthenticate)
    ∷ (not (is_right key p), response_number AuthenticationFailed)
    ∷ (misses r.operation s.values, response_number ValueNotFound)
    ∷ (takes r.operation s.values, response_number ValueAlreadyExists)
    ∷ (not (is_allowed r.operation s.values mask) || is_locked r.operation s.values, response_number AccessDenied)
    ∷ (overfills r.operation s.values, response_number ValueInvalid)
    ∷ (resolves r.operation && not (list_any (is_asked r) s.values), response_number ValueNotFound)
    ∷ [])) (response_number Success)

-- the key's value is looked at only behind a mask
abbrev pub code_for_key : TableView → Content → Proof → Option ℕ → Option Value → ℕ
code_for_key s r p None key = response_number NotAuthorized
code_for_key s r p (Some mask) key = code_after_key s r p mask key

abbrev pub IsCodeForKey : Table → TableView → Content → Proof → ℕ → Type 0
IsCodeForKey t s r p code = (m : Option ℕ) × MaskOf t (target r.operation) (key_of p) m × (code ≡ code_for_key s r p m (value_at t (key_of p)))

-- the mask is asked for only where nothing was refused before
abbrev pub IsCodeBy : Table → Content → Proof → Option ℕ → ℕ → Type 0
IsCodeBy t r p (Some early) code = code ≡ early
IsCodeBy t r p None code = IsCodeForKey t (table_view t r) r p code

abbrev pub IsCodeForProof : Table → Content → Proof → ℕ → Type 0
IsCodeForProof t r p code = IsCodeBy t r p (code_before_key (table_view t r) r p) code
