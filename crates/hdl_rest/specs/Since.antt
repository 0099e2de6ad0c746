-- What a call asks of a server.
use Rattle.std.specs.Prelude.{◌≡◌, List, ◌++◌, IsTrue}
use Rattle.hdl_rest.specs.Exchange.{Exchange}
use Rattle.hdl_rest.specs.declared.service.ChangeServer.{Ghosts}

-- if the server is observed, this holds of what it was asked since
pub record AskedSince {S : Type 0} (g : Ghosts S) (old new : S) (Holds : List Exchange → Type 0) : Type 0 where
  pub since : IsTrue g.is_observed → (xs : List Exchange) × (g.asked new ≡ g.asked old ++ xs) × Holds xs
