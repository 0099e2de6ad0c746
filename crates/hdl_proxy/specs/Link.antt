-- Where links lead.
use Rattle.std.specs.Prelude.{◌≡◌, ◌⊎◌, ℕ, List, ◌∷◌, ◌++◌, Option, Some, None, codes}
use Rattle.percent_encoding.specs.Percent.{percent_encode}
use Rattle.hdl_name.specs.Name.{IsHandle}
use Rattle.hdl_proxy.specs.Url.{IsFollowed}
use Rattle.hdl_proxy.specs.declared.url.TheConstants.{IN_LOCATION, IN_PATH}

-- a URL as it stands in a Location
abbrev pub address_of : List ℕ → List ℕ
address_of url = percent_encode IN_LOCATION url

-- a handle's name as it stands in an address: with its escapes
abbrev pub name_in_address : List ℕ → List ℕ
name_in_address name = percent_encode IN_PATH name

-- the path of a handle's own address: '/', and the name with its escapes
abbrev pub path_to : List ℕ → List ℕ
path_to name = 47 ∷ percent_encode IN_PATH name

-- the path of the page of a handle's own values
abbrev pub path_to_values : List ℕ → List ℕ
path_to_values name = path_to name ++ codes "?noredirect"

-- the path of the form by which it is changed
abbrev pub path_to_form : List ℕ → List ℕ
path_to_form name = path_to name ++ codes "?edit"

-- the path of its own values as JSON
abbrev pub path_to_json : List ℕ → List ℕ
path_to_json name = codes "/api/handles" ++ path_to name

-- the address of a URL that is followed, or the path of a handle, of its form or of its own values, as a page or as JSON
abbrev pub IsLink : List ℕ → Type 0
IsLink to =
    ((url : List ℕ) × (IsFollowed url × (to ≡ address_of url)))
    ⊎ ((name : List ℕ) × (IsHandle name × (to ≡ path_to name)))
    ⊎ ((name : List ℕ) × (IsHandle name × (to ≡ path_to_values name)))
    ⊎ ((name : List ℕ) × (IsHandle name × (to ≡ path_to_form name)))
    ⊎ ((name : List ℕ) × (IsHandle name × (to ≡ path_to_json name)))

-- the way to this URL: its address, and none just where it isn't followed
abbrev pub IsWayTo : List ℕ → Option (List ℕ) → Type 0
IsWayTo url None = ¬ (IsFollowed url)
IsWayTo url (Some to) = IsFollowed url × (to ≡ address_of url)
