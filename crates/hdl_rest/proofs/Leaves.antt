-- A request for a list.
use Rattle.std.proofs.Common.{◌≡◌, inl, inr, ℕ, List, [], ◌∷◌, Option, Some, None, Bool, true, false, true≢false, Result, Ok, Err, refl, sym, subst}
use Rattle.std.specs.Prelude.{IfOk, is_some}
use Rattle.std.specs.Result.{result_ok}
use Rattle.hdl_client.specs.Reply.{Delivery}
use Rattle.hdl_client.specs.declared.challenge.Key.{Key}
use Rattle.hdl_msg.specs.Message.{list}
use Rattle.hdl_msg.specs.Reply.{ReplyParts, SpellsReply}
use Rattle.hdl_rest.specs.Exchange.{Exchange, Spells}
use Rattle.hdl_rest.specs.ListPermission.{GivesList, TriesList}
use Rattle.hdl_rest.specs.Sending.{Tries}

pub not_given : (key : Key) (handle : List ℕ) (reply : Option Delivery) (xs : List Exchange) → Tries key (list handle) reply xs → TriesList key handle false xs
not_given key handle reply xs (inl (none, lacks)) = inl (none, refl)
not_given key handle reply xs (inr (x, is, asks, same)) = inr (x, is, asks, λ may. absurd (true≢false (sym may)))

pub given_by : {A E : Type 0} (key : Key) (handle : List ℕ) (came : Delivery) (parts : ReplyParts) (leave : Result A E) → SpellsReply came.wire came.message parts → IfOk leave (λ _. GivesList parts)
    → (xs : List Exchange) → Tries key (list handle) (Some came) xs → TriesList key handle (is_some (result_ok leave)) xs
given_by key handle came parts (Err e) seen gives xs tried = not_given key handle (Some came) xs tried
given_by key handle came parts (Ok a) seen gives xs (inl (none, lacks)) = absurd (cc)
given_by key handle came parts (Ok a) seen gives xs (inr (x, is, asks, same)) = inr (x, is, asks, λ may. (parts, subst (λ reply. Spells reply parts) (sym same) seen, gives))
