-- The pages of a change, before it is made and after it.
use Rattle.std.specs.Prelude.{◌≡◌, ℕ, Bool, true, false, if◌then◌else◌, List, [], ◌∷◌, ◌++◌, codes, decimal}
use Rattle.hdl_proxy.specs.Link.{path_to}
use Rattle.hdl_proxy.specs.declared.answer.Answer.{Answer}
use Rattle.hdl_proxy.specs.declared.answer.Status.{Status}
use Rattle.hdl_proxy.specs.declared.answer.Status.TheVariants as statuses
use Rattle.hdl_forms.specs.Change.{is_create}
use Rattle.hdl_forms.specs.Fields.{with_text}
use Rattle.hdl_forms.specs.Pages.{Has}
use Rattle.hdl_forms.specs.Template.{filled, markup_of}
use Rattle.hdl_forms.specs.Warnings.{warnings}
use Rattle.hdl_forms.specs.declared.draft.Draft.{Draft}
use Rattle.hdl_forms.specs.declared.draft.Task.{Task}
use Rattle.hdl_forms.specs.declared.markup.Template.TheVariants as templates

-- the address of a handle's values: the server is asked for them, whatever is kept
abbrev pub fresh_address : List ℕ → List ℕ
fresh_address name = path_to name ++ codes "?noredirect&auth"

-- the address at which a handle is followed as it is now
abbrev pub followed_address : List ℕ → List ℕ
followed_address name = path_to name ++ codes "?auth"

abbrev pub edit_address : List ℕ → List ℕ
edit_address name = path_to name ++ codes "?edit"

-- for how many seconds browsers keep where a handle led before a change; a new one led nowhere
abbrev pub kept_part : Task → ℕ → List ℕ
kept_part t kept = if is_create t then [] else with_text templates.Kept (decimal kept)

abbrev pub ways_on : List ℕ → List ℕ
ways_on name = filled (markup_of templates.Done) (fresh_address name ∷ followed_address name ∷ edit_address name ∷ [])

-- below a change that was made
abbrev pub done_part : Task → List ℕ → ℕ → List ℕ
done_part t name kept = kept_part t kept ++ ways_on name

-- something was there already, or it isn't known whether the change was made
abbrev pub is_unclear : Status → Bool
is_unclear statuses.Conflict = true
is_unclear statuses.BadGateway = true
is_unclear other = false

-- the ways from a change that isn't made: to the handle as it is now, if that is unclear, and to a form at this address
abbrev pub ways_part : Status → List ℕ → List ℕ → List ℕ
ways_part status name address =
    if is_unclear status then with_text templates.Look (fresh_address name) ++ with_text templates.Back address
    else with_text templates.Back address

-- the page leads to the handle as it is now
abbrev pub IsUnclear : List ℕ → Answer → Type 0
IsUnclear name answer = Has (with_text templates.Look (fresh_address name)) answer.body.items

-- the page says all that may be wrong with the change
abbrev pub HasWarnings : List ℕ → Draft → Answer → Type 0
HasWarnings name draft answer = Has (warnings name draft) answer.body.items
