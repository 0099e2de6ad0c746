-- What is asked for each order.
use Rattle.std.specs.Prelude.{◌≡◌, ◌⊎◌, ⊤, ℕ, Bool, true, false, List, [], ◌∷◌, Option, Some, None, Result, Ok, IfOk, IsTrue}
use Rattle.std.specs.Global.{Vec}
use Rattle.std.specs.List.{AllByRecursion, list_all}
use Rattle.hdl_client.specs.declared.challenge.Key.{Key}
use Rattle.hdl_value.specs.declared.value.Value.{Value}
use Rattle.hdl_msg.specs.declared.codes.ResponseCode.TheVariants.{HandleAlreadyExists}
use Rattle.hdl_msg.specs.Codes.{response_number}
use Rattle.hdl_msg.specs.Message.{Operation, resolution, create, delete, add, remove, list}
use Rattle.hdl_proxy.specs.declared.answer.Answer.{Answer}
use Rattle.hdl_rest.specs.declared.order.ChangeAction.{ChangeAction}
use Rattle.hdl_rest.specs.declared.order.ChangeAction.TheVariants.{Put, Mint, Delete, Remove, List as ListAll, Read}
use Rattle.hdl_rest.specs.declared.order.Order.{Order}
use Rattle.hdl_rest.specs.declared.order.WriteMode.{WriteMode}
use Rattle.hdl_rest.specs.declared.order.WriteMode.TheVariants.{Create, Replace, Merge, Add}
use Rattle.hdl_rest.specs.Exchange.{Exchange, Asks, Says, IsDone, IsUndone}
use Rattle.hdl_rest.specs.Sending.{SendsAll, Merges, Replaces, says_done}
use Rattle.hdl_rest.specs.Record.{record_in}
use Rattle.hdl_rest.specs.Suffix.{with_suffix}
use Rattle.hdl_rest.specs.Plan.{is_among}

-- the order is to change the handle
abbrev pub changes : ChangeAction → Bool
changes (Put way among) = true
changes Mint = true
changes Delete = true
changes (Remove indexes) = true
changes (ListAll window) = false
changes (Read indexes types) = false

-- handles whose suffix is drawn were asked to be created, and each existed
abbrev pub AllExist : Key → List ℕ → List Value → List Exchange → Type 0
AllExist key front vs xs =
    AllByRecursion (λ x. ((drawn : List ℕ) × Asks key (create (with_suffix front drawn) vs) x) × Says (response_number HandleAlreadyExists) x.reply) xs

-- handles whose suffix is drawn were asked to be created, one after the other as long as each existed
abbrev pub Mints : Key → List ℕ → List Value → List Exchange → Bool → Type 0
Mints key front vs [] whole = whole ≡ false
Mints key front vs (x ∷ xs) whole =
    ((drawn : List ℕ) × Asks key (create (with_suffix front drawn) vs) x)
    × ((IsDone x × (xs ≡ []) × (whole ≡ true))
    ⊎ ((IsUndone x × (xs ≡ []) × (whole ≡ false))
    ⊎ (Says (response_number HandleAlreadyExists) x.reply × Mints key front vs xs whole)))

-- what comes of one suffix that was drawn: an answer, or that the handle exists
abbrev pub TellsMint : Key → List ℕ → List Value → List Exchange → Option Answer → Type 0
TellsMint key front vs xs None = AllExist key front vs xs
TellsMint key front vs xs (Some answer) = Mints key front vs xs (says_done answer.status)

abbrev pub MintsOnce : {E : Type 0} → Key → List ℕ → List Value → Result (Option Answer) E → List Exchange → Type 0
MintsOnce key front vs result xs = ((whole : Bool) × Mints key front vs xs whole) × IfOk result (TellsMint key front vs xs)

-- the values of a body are put into the handle in this way
abbrev pub PutsBy : WriteMode → Key → List ℕ → List Value → List Exchange → Bool → Type 0
PutsBy Create key handle vs xs whole = SendsAll key (create handle vs ∷ []) xs whole
PutsBy Replace key handle vs xs whole = Replaces key handle vs xs whole
PutsBy Merge key handle vs xs whole = Merges key handle vs xs whole
PutsBy Add key handle vs xs whole = SendsAll key (add handle vs ∷ []) xs whole

-- nothing was asked, and so nothing done
abbrev pub IsNothing : List Exchange → Bool → Type 0
IsNothing xs whole = (xs ≡ []) × (whole ≡ false)

-- if indexes are named, each of these values has one of them
abbrev pub AreAmong : Option (Vec ℕ) → List Value → Type 0
AreAmong None vs = ⊤
AreAmong (Some indexes) vs = IsTrue (list_all (λ v. is_among v.index indexes.items) vs)

-- nothing was asked, or what the values of the body take, which have just these indexes
abbrev pub Puts : WriteMode → Option (Vec ℕ) → Key → List ℕ → List ℕ → List Exchange → Bool → Type 0
Puts way among key handle body xs whole =
    IsNothing xs whole ⊎ ((vs : List Value) × (record_in body ≡ Ok vs) × AreAmong among vs × PutsBy way key handle vs xs whole)

abbrev pub MintsBody : Key → List ℕ → List ℕ → List Exchange → Bool → Type 0
MintsBody key front body xs whole = IsNothing xs whole ⊎ ((vs : List Value) × (record_in body ≡ Ok vs) × Mints key front vs xs whole)

-- what is asked for an order with this body
abbrev pub CarriesAct : ChangeAction → Key → List ℕ → List ℕ → List Exchange → Bool → Type 0
CarriesAct (Put way among) key handle body xs whole = Puts way among key handle body xs whole
CarriesAct Mint key handle body xs whole = MintsBody key handle body xs whole
CarriesAct Delete key handle body xs whole = SendsAll key (delete handle ∷ []) xs whole
CarriesAct (Remove indexes) key handle body xs whole = SendsAll key (remove handle indexes.items ∷ []) xs whole
CarriesAct (ListAll window) key handle body xs whole = SendsAll key (list handle ∷ []) xs whole
CarriesAct (Read indexes types) key handle body xs whole = SendsAll key (resolution handle indexes.items types.items ∷ []) xs whole

abbrev pub Carries : Order → List ℕ → List Exchange → Bool → Type 0
Carries order body xs whole = CarriesAct order.act order.key order.name body xs whole

-- this was asked for the order, and if it changes the handle, the answer says that it was done just if all of it was
abbrev pub CarriesOrder : {E : Type 0} → Order → List ℕ → Result Answer E → List Exchange → Type 0
CarriesOrder order body result xs =
    (whole : Bool) × Carries order body xs whole × (IsTrue (changes order.act) → IfOk result (λ answer. says_done answer.status ≡ whole))
