-- The table of decision for anyone.
use Rattle.std.specs.Prelude.{ℕ, List, [], ◌∷◌, Bool, false, not, ◌&&◌, ◌||◌}
use Rattle.std.specs.List.{list_any, list_all}
use Rattle.hdl_value.specs.declared.value.Value.{Value}
use Rattle.hdl_value.specs.declared.permission.Permission.TheVariants.{PublicWrite}
use Rattle.hdl_value.specs.Permission.{permits, is_public, is_kept}
use Rattle.hdl_value.specs.Refs.{is_admin}
use Rattle.hdl_msg.specs.Codes.{response_number}
use Rattle.hdl_msg.specs.declared.codes.ResponseCode.TheVariants.{Success, HandleNotFound, HandleAlreadyExists, ValueNotFound, AuthenticationNeeded}
use Rattle.hdl_msg.specs.Message.{Content, Operation, remove, modify}
use Rattle.hdl_ops.specs.First.{first, or_code}
use Rattle.hdl_ops.specs.Requests.{resolves, creates, is_public_only}
use Rattle.hdl_ops.specs.TableViews.{TableView, asks, passes_at}

-- what is left of a value without the hidden, with public-only also without the kept
abbrev pub is_left : Content → Value → Bool
is_left r v = asks r.operation v && (is_public v || (is_kept v && not (is_public_only r)))

-- anybody may write the value, and it is no HS_ADMIN value
abbrev pub is_open : Value → Bool
is_open v = permits v PublicWrite && not (is_admin v)

-- each value that is written over or away is there and open, and none becomes an HS_ADMIN value
abbrev pub is_open_write : Operation → List Value → Bool
is_open_write (remove handle is) vs = list_all (passes_at is_open vs) is
is_open_write (modify handle news) vs = list_all (λ n. not (is_admin n) && passes_at is_open vs n.index) news
is_open_write _ vs = false

-- where no row holds, a proof is needed
unfoldable pub code_for_anyone : TableView → Content → ℕ
code_for_anyone s r = or_code (first
    ((creates r.operation && s.there, response_number HandleAlreadyExists)
    ∷ (not (creates r.operation) && not s.there, response_number HandleNotFound)
    ∷ (resolves r.operation && not (list_any (is_left r) s.values), response_number ValueNotFound)
    ∷ (resolves r.operation && list_any (λ v. is_left r v && is_kept v) s.values, response_number AuthenticationNeeded)
    ∷ (resolves r.operation, response_number Success)
    ∷ (is_open_write r.operation s.values, response_number Success)
    ∷ [])) (response_number AuthenticationNeeded)
