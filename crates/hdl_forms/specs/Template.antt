-- Pages of templates: the markup is a template's, and what stands in a hole is text.
use Rattle.std.specs.Prelude.{◌≡◌, ℕ, ◌==◌, if◌then◌else◌, List, [], ◌∷◌, ◌+◌, ◌++◌, flat_map, slice_get, unwrap_or}
use Rattle.hdl_proxy.specs.Escape.{escaped}
use Rattle.hdl_forms.specs.declared.markup.Template.{Template}
use Rattle.hdl_forms.specs.declared.markup.Template.TheVariants as templates
use Rattle.hdl_forms.specs.declared.markup.TheConstants.{VALUES, ONE_AT_A_TIME, VALUE, VALUE_BUTTONS, FIELD, FAULTY_FIELD, KEY, FAULTY_KEY, SECRET, FAULTY_SECRET, NONE, ADD, ADD_BUTTON, GONE, OPEN, OPEN_BUTTON, CREATE, CREATE_BUTTON, SHOWN, WARNING, TYPE_WARNING, CHANGED, CONFIRM, CONFIRM_BUTTON, BACK, LOOK, KEPT, DONE, REFUSED, LIST, LIST_FORM, PREFIX, FAULTY_PREFIX, WORDS, FIND, FIND_OR_NEXT, FOUND, ROWS, ROW, GONE_ROW, ROWS_END, NOTHING, LIST_FOOT, LIST_FOOT_NEXT, HISTORY, ENTRY, BEFORE, ENTRY_END, HISTORY_END}
use Rattle.hdl_forms.specs.declared.template.TheConstants.{HOLE}

abbrev pub markup_of : Template → List ℕ
markup_of templates.Values = VALUES.now
markup_of templates.OneAtATime = ONE_AT_A_TIME.now
markup_of templates.Value = VALUE.now
markup_of templates.ValueButtons = VALUE_BUTTONS.now
markup_of templates.Field = FIELD.now
markup_of templates.FaultyField = FAULTY_FIELD.now
markup_of templates.Key = KEY.now
markup_of templates.FaultyKey = FAULTY_KEY.now
markup_of templates.Secret = SECRET.now
markup_of templates.FaultySecret = FAULTY_SECRET.now
markup_of templates.None = NONE.now
markup_of templates.Add = ADD.now
markup_of templates.AddButton = ADD_BUTTON.now
markup_of templates.Gone = GONE.now
markup_of templates.Open = OPEN.now
markup_of templates.OpenButton = OPEN_BUTTON.now
markup_of templates.Create = CREATE.now
markup_of templates.CreateButton = CREATE_BUTTON.now
markup_of templates.Shown = SHOWN.now
markup_of templates.Warning = WARNING.now
markup_of templates.TypeWarning = TYPE_WARNING.now
markup_of templates.Changed = CHANGED.now
markup_of templates.Confirm = CONFIRM.now
markup_of templates.ConfirmButton = CONFIRM_BUTTON.now
markup_of templates.Back = BACK.now
markup_of templates.Look = LOOK.now
markup_of templates.Kept = KEPT.now
markup_of templates.Done = DONE.now
markup_of templates.Refused = REFUSED.now
markup_of templates.List = LIST.now
markup_of templates.ListForm = LIST_FORM.now
markup_of templates.Prefix = PREFIX.now
markup_of templates.FaultyPrefix = FAULTY_PREFIX.now
markup_of templates.Words = WORDS.now
markup_of templates.Find = FIND.now
markup_of templates.FindOrNext = FIND_OR_NEXT.now
markup_of templates.Found = FOUND.now
markup_of templates.Rows = ROWS.now
markup_of templates.Row = ROW.now
markup_of templates.GoneRow = GONE_ROW.now
markup_of templates.RowsEnd = ROWS_END.now
markup_of templates.Nothing = NOTHING.now
markup_of templates.ListFoot = LIST_FOOT.now
markup_of templates.ListFootNext = LIST_FOOT_NEXT.now
markup_of templates.History = HISTORY.now
markup_of templates.Entry = ENTRY.now
markup_of templates.Before = BEFORE.now
markup_of templates.EntryEnd = ENTRY_END.now
markup_of templates.HistoryEnd = HISTORY_END.now

-- the text of this place, and an empty one behind the last
abbrev pub text_at : List (List ℕ) → ℕ → List ℕ
text_at texts place = unwrap_or (slice_get texts place) []

-- the markup from here on, whose first hole has the text of this place
abbrev pub filled_from : List ℕ → List (List ℕ) → ℕ → List ℕ
filled_from [] texts place = []
filled_from (octet ∷ markup) texts place =
    if octet == HOLE then escaped (text_at texts place) ++ filled_from markup texts (place + 1)
    else octet ∷ filled_from markup texts place

-- the markup, with the texts in its holes in their order, each escaped
abbrev pub filled : List ℕ → List (List ℕ) → List ℕ
filled markup texts = filled_from markup texts 0

-- a template and the texts in its holes
abbrev pub Part : Type 0
Part = Template × List (List ℕ)

abbrev pub part : Part → List ℕ
part x = filled (markup_of x.0) x.1

-- templates of this crate one after the other, with texts in their holes, and nothing else
abbrev pub IsMade : List ℕ → Type 0
IsMade octets = (parts : List Part) × (octets ≡ flat_map part parts)
