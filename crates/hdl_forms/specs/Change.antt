-- The order that a change by a form is, and its body.
use Rattle.std.specs.Prelude.{◌≡◌, ◌⊎◌, ℕ, Bool, true, false, if◌then◌else◌, List, [], ◌∷◌, ◌++◌, codes, Option, Some, None, option_map}
use Rattle.std.specs.Int.{w16, w32, to_be_bytes}
use Rattle.std.specs.Str.{trim}
use Rattle.hdl_value.specs.declared.value.Value.{Value}
use Rattle.hdl_value.specs.Spelling.{reference}
use Rattle.hdl_value_lines.specs.Fields.{IsReferenceOf}
use Rattle.hdl_client.specs.declared.challenge.Key.{Key}
use Rattle.hdl_proxy.specs.Json.{IsJsonOf}
use Rattle.hdl_rest.specs.declared.order.ChangeAction.{ChangeAction}
use Rattle.hdl_rest.specs.declared.order.ChangeAction.TheVariants as acts
use Rattle.hdl_rest.specs.declared.order.WriteMode.{WriteMode}
use Rattle.hdl_rest.specs.declared.order.WriteMode.TheVariants as modes
use Rattle.hdl_forms.specs.Draft.{is_remove}
use Rattle.hdl_forms.specs.declared.draft.Draft.{Draft}
use Rattle.hdl_forms.specs.declared.draft.Task.{Task}
use Rattle.hdl_forms.specs.declared.draft.Task.TheVariants as tasks

-- the value that is written: of the index, type, TTL and permissions of the form, and with its text
unfoldable pub value_of : Draft → Value
value_of d = record { index = d.index; kind = d.kind; bytes = d.text; ttl = 0 ∷ to_be_bytes w32 d.ttl; permissions = d.permissions; timestamp = 0; references = [] }

-- the administrator of a new handle: the key that creates it, with all permissions
unfoldable pub admin_value : ℕ → List ℕ → Value
admin_value index handle =
    record {
      index = 100;
      kind = codes "HS_ADMIN";
      bytes = to_be_bytes w16 4095 ++ reference (record { handle = handle; index = index });
      ttl = 0 ∷ to_be_bytes w32 86400;
      permissions = 14;
      timestamp = 0;
      references = [];
    }

abbrev pub is_create : Task → Bool
is_create tasks.Change = false
is_create tasks.Add = false
is_create tasks.Remove = false
is_create tasks.Create = true

abbrev pub values_of : Draft → ℕ → List ℕ → List Value
values_of d index handle = if is_create d.task then admin_value index handle ∷ value_of d ∷ [] else value_of d ∷ []

-- a value that is there is modified, a new one is added where its index is free, and a handle is created where it isn't there
abbrev pub way_of : Task → WriteMode
way_of tasks.Change = modes.Merge
way_of tasks.Add = modes.Add
way_of tasks.Remove = modes.Merge
way_of tasks.Create = modes.Create

-- into this index alone; a new handle has any
abbrev pub among_of : Draft → Option (List ℕ)
among_of d = if is_create d.task then None else Some (d.index ∷ [])

abbrev pub IsPut : WriteMode → Option (List ℕ) → ChangeAction → Type 0
IsPut way indexes (acts.Put w among) = (w ≡ way) × (option_map (λ v. v.items) among ≡ indexes)
IsPut way indexes other = ⊥

abbrev pub IsRemove : ℕ → ChangeAction → Type 0
IsRemove index (acts.Remove v) = v.items ≡ index ∷ []
IsRemove index other = ⊥

-- what an order does: the value of this index is removed, or values are put
abbrev pub IsActOf : Draft → ChangeAction → Type 0
IsActOf d a = ((is_remove d.task ≡ true) × IsRemove d.index a) ⊎ ((is_remove d.task ≡ false) × IsPut (way_of d.task) (among_of d) a)

-- the record in JSON of these values; nothing where a value is removed
abbrev pub IsBodyOf : List ℕ → Draft → ℕ → List ℕ → List ℕ → Type 0
IsBodyOf name d index handle body = ((is_remove d.task ≡ true) × (body ≡ [])) ⊎ ((is_remove d.task ≡ false) × IsJsonOf name (values_of d index handle) body)

-- the key that was typed, without the spaces at its ends, with this secret
abbrev pub IsKeyOf : List ℕ → List ℕ → Key → Type 0
IsKeyOf words secret key = IsReferenceOf (trim words) key.index key.handle × (key.secret ≡ secret)
