-- What a decision sees of the table, and what a resolution asks for.
use Rattle.std.specs.Prelude.{ℕ, List, [], Bool, false, ◌==◌, ◌&&◌, ◌||◌, Option, Some, None, if◌then◌else◌, length, map, bytes_eq, codes}
use Rattle.std.specs.List.{list_any, starts_with, ends_with}
use Rattle.hdl_name.specs.Name.{prefix}
use Rattle.hdl_value.specs.declared.value.Value.{Value}
use Rattle.hdl_rows.specs.Heads.{head}
use Rattle.hdl_rows.specs.Table.{Table, has, values_of, names_of, value_with}
use Rattle.hdl_msg.specs.Message.{Content, Operation, resolution}
use Rattle.hdl_ops.specs.Requests.{sent_handle, handle_of, is_list}

pub record TableView : Type 0 where
  pub there : Bool  -- the handle is there
  pub values : List Value  -- its values, by rising index
  pub names : List (List ℕ)  -- for a list, the handles of the naming authority, rising by octets

unfoldable pub table_view : Table → Content → TableView
table_view t r = record {
  there = has t (handle_of r);
  values = values_of t (handle_of r);
  names = if is_list r.operation then names_of t (prefix (sent_handle r.operation)) else [];
}

-- what is seen before a code is known: the heads of the handle's values, and none of a naming authority's handles
abbrev pub bare : TableView → TableView
bare s = record s { values = map head s.values; names = [] }

-- the value is there and passes the test
abbrev pub passes : (Value → Bool) → Option Value → Bool
passes test None = false
passes test (Some v) = test v

-- that of this index
abbrev pub passes_at : (Value → Bool) → List Value → ℕ → Bool
passes_at test vs i = passes test (value_with i vs)

-- a listed type matches an equal type, and one that ends in '.' each type that begins with it
unfoldable pub matches : List ℕ → List ℕ → Bool
matches listed kind = bytes_eq listed kind || (ends_with ◌==◌ listed (codes ".") && starts_with ◌==◌ kind listed)

-- both lists are empty, or one of them names the value
unfoldable pub is_named : List ℕ → List (List ℕ) → Value → Bool
is_named indexes types v =
    (length indexes == 0 && length types == 0)
    || list_any (λ i. i == v.index) indexes
    || list_any (λ t. matches t v.kind) types

-- a resolution asks for the value
abbrev pub asks : Operation → Value → Bool
asks (resolution handle indexes types) v = is_named indexes types v
asks _ v = false
