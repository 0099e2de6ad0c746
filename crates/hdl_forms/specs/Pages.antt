-- The pages with forms.
use Rattle.std.specs.Prelude.{◌≡◌, ℕ, List, ◌++◌}
use Rattle.hdl_proxy.specs.Answer.{Tells}
use Rattle.hdl_proxy.specs.declared.answer.Answer.{Answer}
use Rattle.hdl_proxy.specs.declared.answer.CacheControl.TheVariants.{Never}
use Rattle.hdl_proxy.specs.declared.answer.Media.TheVariants.{Page}
use Rattle.hdl_proxy.specs.declared.answer.Status.{Status}
use Rattle.hdl_forms.specs.Template.{IsMade}

-- a page of this status, which no one keeps, made of the templates of this crate with text in their holes
pub record IsFormPage (status : Status) (answer : Answer) : Type 0 where
  pub told : Tells status Page answer
  pub kept : answer.cache_control ≡ Never
  pub body : IsMade answer.body.items

-- this part stands somewhere in it
abbrev pub Has : List ℕ → List ℕ → Type 0
Has part octets = (before after : List ℕ) × (octets ≡ before ++ (part ++ after))
