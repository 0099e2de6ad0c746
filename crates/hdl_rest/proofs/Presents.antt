-- A reading of one value.
use Rattle.std.proofs.Common.{◌≡◌, inl, inr, ℕ, List, [], ◌∷◌, Option, Some, None, Result, Ok, Err, refl, sym, subst}
use Rattle.std.specs.Prelude.{IfOk}
use Rattle.std.specs.Result.{result_ok}
use Rattle.hdl_client.specs.Reply.{Delivery}
use Rattle.hdl_client.specs.declared.challenge.Key.{Key}
use Rattle.hdl_value.specs.declared.value.Value.{Value}
use Rattle.hdl_msg.specs.Message.{resolution}
use Rattle.hdl_msg.specs.Reply.{ReplyParts, SpellsReply}
use Rattle.hdl_rest.specs.Exchange.{Exchange, Spells}
use Rattle.hdl_rest.specs.Present.{ShowsAt, TriesValue}
use Rattle.hdl_rest.specs.Sending.{Tries}

value_shown : (key : Key) (handle : List ℕ) (index : ℕ) (there : Option Value) (came : Delivery) (parts : ReplyParts) (xs : List Exchange) → SpellsReply came.wire came.message parts → ShowsAt handle index there parts
    → Tries key (resolution handle (index ∷ []) []) (Some came) xs → TriesValue key handle index (Some there) xs
value_shown key handle index there came parts xs seen shows (inl (none, lacks)) = absurd (cc)
value_shown key handle index there came parts xs seen shows (inr (x, is, asks, same)) = inr (x, is, asks, (parts, subst (λ reply. Spells reply parts) (sym same) seen, shows))

pub value_none : (key : Key) (handle : List ℕ) (index : ℕ) (reply : Option Delivery) (xs : List Exchange) → Tries key (resolution handle (index ∷ []) []) reply xs → TriesValue key handle index None xs
value_none key handle index reply xs (inl (none, lacks)) = inl (none, refl)
value_none key handle index reply xs (inr (x, is, asks, same)) = inr (x, is, asks, tt)

value_so : {E : Type 0} (key : Key) (handle : List ℕ) (index : ℕ) (came : Delivery) (parts : ReplyParts) (there : Result (Option Value) E) → SpellsReply came.wire came.message parts → IfOk there (λ v. ShowsAt handle index v parts)
    → (xs : List Exchange) → Tries key (resolution handle (index ∷ []) []) (Some came) xs → TriesValue key handle index (result_ok there) xs
value_so key handle index came parts (Ok v) seen shows xs tried = value_shown key handle index v came parts xs seen shows tried
value_so key handle index came parts (Err e) seen shows xs tried = value_none key handle index (Some came) xs tried

pub value_by : {E : Type 0} (key : Key) (handle sent : List ℕ) (index : ℕ) (came : Delivery) (parts : ReplyParts) (there : Result (Option Value) E) → sent ≡ handle → SpellsReply came.wire came.message parts → IfOk there (λ v. ShowsAt sent index v parts)
    → (xs : List Exchange) → Tries key (resolution handle (index ∷ []) []) (Some came) xs → TriesValue key handle index (result_ok there) xs
value_by key handle sent index came parts there same seen shows xs tried = value_so key handle index came parts there seen (subst (λ h. IfOk there (λ v. ShowsAt h index v parts)) same shows) xs tried
