-- The words that the query of a request may have which changes a handle: no other one is passed over.
use Rattle.std.specs.Prelude.{◌≡◌, ◌⊎◌, ⊤, ℕ, Bool, true, ◌||◌, List, codes, bytes_eq, if◌then◌else◌}
use Rattle.std.specs.List.{list_all}
use Rattle.hdl_rest.specs.declared.order.ParsedRequest.{ParsedRequest}
use Rattle.hdl_rest.specs.declared.order.ParsedRequest.TheVariants.{Answer, Order, Other}

-- a PUT may have overwrite, index and mintNewSuffix, and a DELETE index
abbrev pub is_known : List ℕ → List ℕ → Bool
is_known method word =
    if bytes_eq method (codes "PUT") then bytes_eq word (codes "overwrite") || (bytes_eq word (codes "index") || bytes_eq word (codes "mintNewSuffix"))
    else bytes_eq word (codes "index")

abbrev pub are_known : List ℕ → List (List ℕ × List ℕ) → Bool
are_known method pairs = list_all (λ pair. is_known method pair.0) pairs

-- a method by which a handle is changed
abbrev pub IsChanging : List ℕ → Type 0
IsChanging method = (method ≡ codes "PUT") ⊎ (method ≡ codes "DELETE")

-- where it is to be carried out, the query has no other words
abbrev pub HasKnownWords : List ℕ → List (List ℕ × List ℕ) → ParsedRequest → Type 0
HasKnownWords method pairs (Order order) = are_known method pairs ≡ true
HasKnownWords method pairs (Answer answer) = ⊤
HasKnownWords method pairs Other = ⊤
