-- The requests that a change takes, in the order in which they are sent.
use Rattle.std.specs.Prelude.{ℕ, Bool, true, false, not, ◌==◌, if◌then◌else◌, List, [], ◌∷◌, ◌++◌, length, map, filter}
use Rattle.std.specs.List.{list_any}
use Rattle.hdl_value.specs.declared.value.Value.{Value}
use Rattle.hdl_msg.specs.Message.{Operation, add, remove, modify}
use Rattle.hdl_rest.specs.Record.{has_index}

-- the number is one of these
abbrev pub is_among : ℕ → List ℕ → Bool
is_among n ns = list_any (λ m. m == n) ns

-- of the given values those whose index is there already, and those whose index isn't
abbrev pub known_values : List ℕ → List Value → List Value
known_values there vs = filter (λ v. is_among v.index there) vs

abbrev pub fresh : List ℕ → List Value → List Value
fresh there vs = filter (λ v. not (is_among v.index there)) vs

-- of the indexes that are there those which no given value has
abbrev pub missing_indexes : List ℕ → List Value → List ℕ
missing_indexes there vs = filter (λ n. not (has_index n vs)) there

-- a request for some values or indexes, and none where there are none
abbrev pub modifying : List ℕ → List Value → List Operation
modifying handle [] = []
modifying handle (v ∷ vs) = modify handle (v ∷ vs) ∷ []

abbrev pub adding : List ℕ → List Value → List Operation
adding handle [] = []
adding handle (v ∷ vs) = add handle (v ∷ vs) ∷ []

abbrev pub removing : List ℕ → List ℕ → List Operation
removing handle [] = []
removing handle (n ∷ ns) = remove handle (n ∷ ns) ∷ []

-- To put these values into a handle where those indexes are: what is there is modified, then what isn't is added.
unfoldable pub merging : List ℕ → List ℕ → List Value → List Operation
merging handle there vs = modifying handle (known_values there vs) ++ adding handle (fresh there vs)

-- To put them in the place of all that is there: the same, and at the end what is not given is removed.
unfoldable pub replacing : List ℕ → List ℕ → List Value → List Operation
replacing handle there vs = merging handle there vs ++ removing handle (missing_indexes there vs)
