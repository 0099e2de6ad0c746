-- Fields that are typed, each with what is wrong with it: typing goes on in one that has a fault.
use Rattle.std.specs.Prelude.{ℕ, ◌==◌, if◌then◌else◌, List, [], ◌∷◌, ◌++◌, length}
use Rattle.hdl_forms.specs.Template.{filled, markup_of}
use Rattle.hdl_forms.specs.declared.markup.Template.{Template}
use Rattle.hdl_forms.specs.declared.markup.Template.TheVariants as templates
use Rattle.hdl_forms.specs.declared.pages.TypedField.{TypedField}

abbrev pub field_template : List ℕ → Template
field_template fault = if length fault == 0 then templates.Field else templates.FaultyField

-- a field, and what is wrong with it
abbrev pub field_texts : TypedField → List ℕ → List (List ℕ)
field_texts field fault =
    field.id.now ∷ field.label.now ∷ field.note.now ∷ field.id.now ∷ field.name.now ∷ field.value.now ∷ field.placeholder.now ∷ field.keys.now ∷ field.id.now ∷ field.id.now ∷ fault ∷ []

abbrev pub field_part : TypedField → List ℕ → List ℕ
field_part field fault = filled (markup_of (field_template fault)) (field_texts field fault)

abbrev pub key_template : List ℕ → Template
key_template fault = if length fault == 0 then templates.Key else templates.FaultyKey

abbrev pub secret_template : List ℕ → Template
secret_template fault = if length fault == 0 then templates.Secret else templates.FaultySecret

abbrev pub prefix_template : List ℕ → Template
prefix_template fault = if length fault == 0 then templates.Prefix else templates.FaultyPrefix

-- a template with one text
abbrev pub with_text : Template → List ℕ → List ℕ
with_text template text = filled (markup_of template) (text ∷ [])

-- a page, and after it the fields of a key and its secret, which are always empty
abbrev pub with_keys : List ℕ → List ℕ → List ℕ → List ℕ
with_keys page at_key at_secret = (page ++ with_text (key_template at_key) at_key) ++ with_text (secret_template at_secret) at_secret
