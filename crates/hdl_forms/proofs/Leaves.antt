-- What comes of a request for a list.
use Rattle.std.proofs.Common.{◌≡◌, true, false, ℕ, List, Result, Ok, Err, subst}
use Rattle.std.specs.Prelude.{is_some}
use Rattle.hdl_client.specs.declared.challenge.Key.{Key}
use Rattle.hdl_rest.specs.Exchange.{Exchange}
use Rattle.hdl_rest.specs.ListPermission.{TriesList}
use Rattle.hdl_rest.specs.Present.{said_in}

pub given : (F : Type 0) {A E : Type 0} (key : Key) (handle : List ℕ) (leave : Result A E) (a : A) (xs : List Exchange) → leave ≡ Ok a → TriesList key handle (is_some (said_in {F = F} (Ok leave))) xs → TriesList key handle true xs
given F key handle leave a xs is tried = subst (λ l. TriesList key handle (is_some (said_in {F = F} (Ok l))) xs) is tried

pub refused : (F : Type 0) {A E : Type 0} (key : Key) (handle : List ℕ) (leave : Result A E) (e : E) (xs : List Exchange) → leave ≡ Err e → TriesList key handle (is_some (said_in {F = F} (Ok leave))) xs → TriesList key handle false xs
refused F key handle leave e xs is tried = subst (λ l. TriesList key handle (is_some (said_in {F = F} (Ok l))) xs) is tried
