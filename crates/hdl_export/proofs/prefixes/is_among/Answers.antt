use Rattle.std.proofs.Common.{◌∙◌, sym, List, ℕ, Bor, rules, tests}
use Rattle.std.specs.Str.{bytes_eq}
use Rattle.std.proofs.lemmas.Iterator.Search.{any_from_yields_List}
use Rattle.std.proofs.lemmas.Iterator.{YieldsList-from_slice}
use Rattle.hdl_export.proofs.Walks.{any_mapped}
use Rattle.hdl_export.proofs.prefixes.is_among.Goals as goal

pub returns : goal.returns
returns c =
    any_from_yields_List (λ (t : Bor (List ℕ)). bytes_eq c.args.octets.now t.now) _ _ c.any.result c.any.ensures.ran (YieldsList-from_slice c.args.texts.now cc) (λ x b q k. search (rules, tests))
    ∙ sym (any_mapped (λ t. bytes_eq c.args.octets.now t) (λ (t : Bor (List ℕ)). t.now) c.args.texts.now)
