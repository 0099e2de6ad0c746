use Rattle.std.proofs.Common.{◌≡◌, true, false, sym, ◌∙◌, rules}
use Rattle.std.specs.Prelude.{decimal}
use Rattle.std.specs.Str.{bytes_eq}
use Rattle.std.proofs.lemmas.Slice.Eq.{bytes_eq-Decides}
use Rattle.hdl_history.proofs.Numbers.{no_utf8_long, not_parsed, not_canonical, canonical_long}
use Rattle.hdl_history.proofs.fields.long_in.Goals as goal

pub returns-in_default : goal.returns-in_default
returns-in_default c = sym (no_utf8_long c.args.word.now c.in_default.ensures.cases.0)

pub returns-in_default-parse : goal.returns-in_default-parse
returns-in_default-parse c = sym (not_parsed c.args.word.now c.parse.result _ c.in_default-parse.is (rw (← c.in-Ok.ensures.cases.0) c.parse.ensures.value.0))

pub returns-else-eq : goal.returns-else-eq
returns-else-eq c =
    let written : c.as_bytes.result.now ≡ decimal c.in-Ok-parse.number = c.as_bytes.ensures.value ∙ c.format.ensures.text in
    let other : bytes_eq c.as_bytes.result.now c.args.word.now ≡ false = search rules in
    sym (not_canonical c.args.word.now c.parse.result c.in-Ok-parse.number c.in-Ok-parse.is (rw (← c.in-Ok.ensures.cases.0) c.parse.ensures.value.0)
    (λ e. let same = (bytes_eq-Decides c.as_bytes.result.now c.args.word.now).1 (written ∙ e) in let both = sym other ∙ same in absurd cc))

pub returns-then-eq : goal.returns-then-eq
returns-then-eq c =
    let written : c.as_bytes.result.now ≡ decimal c.in-Ok-parse.number = c.as_bytes.ensures.value ∙ c.format.ensures.text in
    let same : bytes_eq c.as_bytes.result.now c.args.word.now ≡ true = search rules in
    sym (canonical_long c.args.word.now c.in-Ok-parse.number (search rules) (sym written ∙ (bytes_eq-Decides c.as_bytes.result.now c.args.word.now).0 same))
