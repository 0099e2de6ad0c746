use Rattle.std.proofs.Common.{◌≡◌, true, false, sym, ◌∙◌, rules}
use Rattle.std.specs.Char.{is_control}
use Rattle.std.proofs.lemmas.Str.{IsUtf8-past_char}
use Rattle.hdl_value_lines.proofs.PlainText.{plain_none, plain_step, plain_stop}
use Rattle.hdl_value_lines.proofs.fields.are_printed.Goals as goal

pub loop-c-preserved : goal.loop-c-preserved
loop-c-preserved c =
    let held = c.loop-c.invariant in
    let parts = c.in-Some.ensures.steps.0 in
    let no : is_control c.in-Some.c ≡ false = search rules in
    (IsUtf8-past_char _ _ c.in-Some.c held.0 parts, sym (plain_step _ _ c.in-Some.c held.0 parts no) ∙ held.1)

pub returns-then-is_control : goal.returns-then-is_control
returns-then-is_control c =
    let held = c.loop-c.invariant in
    let yes : is_control c.in-Some.c ≡ true = search rules in
    sym (sym held.1 ∙ plain_stop _ _ c.in-Some.c held.0 c.in-Some.ensures.steps.0 yes)

pub returns : goal.returns
returns c = sym (sym c.loop-c.invariant.1 ∙ plain_none _ c.in-None.ensures.steps.0.0)
