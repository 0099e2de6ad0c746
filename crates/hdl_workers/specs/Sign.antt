-- What an item shows: a sign without its moment and nonce, and apart from it these two.
use Rattle.std.specs.Prelude.{◌≡◌, ℕ, List, [], ◌∷◌, ◌++◌, map, replicate, ◌⊎◌}
use Rattle.std.specs.List.{flat_map}
use Rattle.hdl_events.specs.declared.What.{What}
use Rattle.hdl_events.specs.declared.What.TheVariants.{Open, Frame, Bad, Close}
use Rattle.hdl_workers.specs.Door.{Gives}
use Rattle.hdl_workers.specs.declared.item.Item.{Item}
use Rattle.hdl_workers.specs.declared.item.Item.TheVariants.{Event, End}

-- an item without its moment and nonce
pub data Sign : Type 0 where
  opened : Sign
  framed : ℕ → List ℕ → Sign
  faulty : ℕ → ℕ → Sign
  closed : Sign
  finished : Sign

abbrev pub sign_of_what : What → Sign
sign_of_what Open = opened
sign_of_what (Frame peer moment nonce bytes) = framed peer bytes
sign_of_what (Bad session request) = faulty session request
sign_of_what Close = closed

abbrev pub sign_of : Item → Sign
sign_of (Event what) = sign_of_what what
sign_of End = finished

abbrev pub signs_of : List Item → List Sign
signs_of items = map sign_of items

-- one more item was put, which shows this sign
abbrev pub PutOne : Sign → List Item → List Item → Type 0
PutOne sign items items' = (item : Item) × (items' ≡ items ++ item ∷ []) × (sign_of item ≡ sign)

-- at most one End, last
abbrev pub WithEnd : List Item → List Item → Type 0
WithEnd events items = (items ≡ events) ⊎ (items ≡ events ++ End ∷ [])

-- the moments of the frames, in order, and their nonces
abbrev pub moment_of_what : What → List ℕ
moment_of_what Open = []
moment_of_what (Frame peer moment nonce bytes) = moment ∷ []
moment_of_what (Bad session request) = []
moment_of_what Close = []

abbrev pub moment_of : Item → List ℕ
moment_of (Event what) = moment_of_what what
moment_of End = []

abbrev pub moments_of : List Item → List ℕ
moments_of items = flat_map moment_of items

abbrev pub nonce_of_what : What → List (List ℕ)
nonce_of_what Open = []
nonce_of_what (Frame peer moment nonce bytes) = nonce ∷ []
nonce_of_what (Bad session request) = []
nonce_of_what Close = []

abbrev pub nonce_of : Item → List (List ℕ)
nonce_of (Event what) = nonce_of_what what
nonce_of End = []

abbrev pub nonces_of : List Item → List (List ℕ)
nonces_of items = flat_map nonce_of items

-- what was put with the answers given in between: each answer went into one frame, in order
pub record AllUsed {A : Type 0} (zero : A) (coming used coming' used' : List A) : Type 0 where
  pub more : List A
  pub given : Gives zero coming more coming'
  pub placed : used' ≡ used ++ more

abbrev pub MomentsUsed : List ℕ → List Item → List ℕ → List Item → Type 0
MomentsUsed coming put coming' put' = AllUsed 0 coming (moments_of put) coming' (moments_of put')

abbrev pub NoncesUsed : List (List ℕ) → List Item → List (List ℕ) → List Item → Type 0
NoncesUsed coming put coming' put' = AllUsed (replicate 16 0) coming (nonces_of put) coming' (nonces_of put')
