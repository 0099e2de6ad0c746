-- What is asked for an order, one request after the other, and whether all of it was done.
use Rattle.std.specs.Prelude.{◌≡◌, ◌≢◌, ◌⊎◌, ⊤, ℕ, ◌+◌, ◌==◌, nat_lt, Bool, true, false, List, [], ◌∷◌, length, map, Option, Some, None, Result, Ok, Err, IfOk, IfSome, MatchOption}
use Rattle.hdl_client.specs.Reply.{Delivery}
use Rattle.hdl_client.specs.declared.challenge.Key.{Key}
use Rattle.hdl_value.specs.declared.value.Value.{Value}
use Rattle.hdl_value.specs.declared.wire.Wire.{Wire}
use Rattle.hdl_msg.specs.declared.codes.ResponseCode.TheVariants.{Success, HandleAlreadyExists, ValueNotFound}
use Rattle.hdl_msg.specs.declared.replies.ReplyContent.TheVariants.{Values}
use Rattle.hdl_msg.specs.Codes.{response_number}
use Rattle.hdl_msg.specs.Message.{Operation, resolution, create, delete, add, remove, list}
use Rattle.hdl_msg.specs.Reply.{ReplyParts}
use Rattle.hdl_proxy.specs.Status.{status_number}
use Rattle.hdl_proxy.specs.declared.answer.Answer.{Answer}
use Rattle.hdl_proxy.specs.declared.answer.Status.{Status}
use Rattle.hdl_rest.specs.declared.stop.ChangeFault.{ChangeFault}
use Rattle.hdl_rest.specs.declared.stop.ChangeFault.TheVariants as change_fault
use Rattle.hdl_rest.specs.Exchange.{Exchange, Asks, Spells, Says, IsDone, IsUndone}
use Rattle.hdl_rest.specs.Plan.{merging, replacing}

-- ---- one request

-- at most this request was asked, with this reply
abbrev pub Tries : Key → Operation → Option Delivery → List Exchange → Type 0
Tries key operation reply xs =
    ((xs ≡ []) × (reply ≡ None)) ⊎ ((x : Exchange) × (xs ≡ x ∷ []) × Asks key operation x × (x.reply ≡ reply))

-- the code in a fault, if it is that of a reply
abbrev pub code_of : ChangeFault → Option ℕ
code_of (change_fault.Code code) = Some code
code_of change_fault.Unreached = None
code_of change_fault.Silent = None
code_of change_fault.TooLong = None
code_of change_fault.TooMany = None
code_of change_fault.Memory = None

-- a change wasn't done for it
abbrev pub IsFailure : ChangeFault → Type 0
IsFailure fault = code_of fault ≢ Some (response_number Success)

-- what is told of a request is what its reply says
abbrev pub IsToldBy : {A : Type 0} → Result A ChangeFault → Option Delivery → Type 0
IsToldBy (Ok done) reply = Says (response_number Success) reply
IsToldBy (Err fault) reply = MatchOption (code_of fault) (reply ≡ None) (λ code. Says code reply)

-- at most this request was asked, and this is told of it
pub record Makes {A : Type 0} (key : Key) (operation : Operation) (told : Result A ChangeFault) (xs : List Exchange) : Type 0 where
  pub reply : Option Delivery
  pub tried : Tries key operation reply xs
  pub told_by : IsToldBy told reply

-- ---- steps

-- these steps were sent in order with the key, up to the first that wasn't done; and so many were done
abbrev pub Sends : Key → List Operation → List Exchange → ℕ → Type 0
Sends key steps [] count = count ≡ 0
Sends key [] (x ∷ xs) count = ⊥
Sends key (step ∷ steps) (x ∷ xs) count =
    Asks key step x
    × ((IsDone x × ((more : ℕ) × Sends key steps xs more × (count ≡ more + 1))) ⊎ (IsUndone x × (xs ≡ []) × (count ≡ 0)))

-- the same, and whether all steps were done
abbrev pub SendsAll : Key → List Operation → List Exchange → Bool → Type 0
SendsAll key steps xs whole = (count : ℕ) × Sends key steps xs count × (whole ≡ (count == length steps))

-- ---- readings

-- a reply shows the handle's values, and these are their indexes; or it says that there are none
abbrev pub ShowsIn : List ℕ → List ℕ → ReplyParts → Type 0
ShowsIn handle there parts =
    ((wire : Wire) × (values : List Value) × (parts.content ≡ Values wire handle values) × (there ≡ map (λ v. v.index) values))
    ⊎ ((parts.header.response_code ≡ response_number ValueNotFound) × (there ≡ []))

abbrev pub Shows : List ℕ → List ℕ → Option Delivery → Type 0
Shows handle there reply = (parts : ReplyParts) × Spells reply parts × ShowsIn handle there parts

-- at most the values of these indexes, or all of the handle, were asked for; and if some indexes are told, the reply shows them
abbrev pub TriesReading : Key → List ℕ → List ℕ → Option (List ℕ) → List Exchange → Type 0
TriesReading key handle indexes there xs =
    ((xs ≡ []) × (there ≡ None))
    ⊎ ((x : Exchange) × (xs ≡ x ∷ []) × Asks key (resolution handle indexes []) x × IfSome there (λ ns. Shows handle ns x.reply))

-- values are read first, and then the steps of a plan by the indexes that the reply shows
abbrev pub SendsByReading : Key → List ℕ → List ℕ → (List ℕ → List Operation) → List Exchange → Bool → Type 0
SendsByReading key handle indexes plan [] whole = whole ≡ false
SendsByReading key handle indexes plan (x ∷ xs) whole =
    Asks key (resolution handle indexes []) x
    × (((xs ≡ []) × (whole ≡ false)) ⊎ ((there : List ℕ) × Shows handle there x.reply × SendsAll key (plan there) xs whole))

-- ---- orders

-- values are merged into what is there
abbrev pub Merges : Key → List ℕ → List Value → List Exchange → Bool → Type 0
Merges key handle vs xs whole = SendsByReading key handle (map (λ v. v.index) vs) (λ there. merging handle there vs) xs whole

-- The handle is created; and if it exists, the values are put in the place of all that is there.
abbrev pub Replaces : Key → List ℕ → List Value → List Exchange → Bool → Type 0
Replaces key handle vs [] whole = whole ≡ false
Replaces key handle vs (x ∷ xs) whole =
    Asks key (create handle vs) x
    × ((IsDone x × (xs ≡ []) × (whole ≡ true))
    ⊎ ((IsUndone x × (xs ≡ []) × (whole ≡ false))
    ⊎ (Says (response_number HandleAlreadyExists) x.reply × SendsByReading key handle [] (λ there. replacing handle there vs) xs whole)))

-- ---- answers

-- the status says that all was done
abbrev pub says_done : Status → Bool
says_done status = nat_lt (status_number status) 300

-- this was asked for an order, and the answer says that it was done just if all of it was
abbrev pub CarriesOut : {E : Type 0} → (List Exchange → Bool → Type 0) → Result Answer E → List Exchange → Type 0
CarriesOut Plan result xs = (whole : Bool) × Plan xs whole × IfOk result (λ answer. says_done answer.status ≡ whole)
