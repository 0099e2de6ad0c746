use Rattle.std.proofs.Common.{◌∙◌, sym, ap, ◌++◌, take, drop}
use Rattle.std.proofs.lemmas.List.{take-append-drop}
use Rattle.hdl_name.proofs.Canon.{admin_canon, other_canon, stays_lower}
use Rattle.hdl_name.proofs.name.is_canonical.Goals as goal

pub returns-then-is_admin_authority : goal.returns-then-is_admin_authority
returns-then-is_admin_authority c = λ lower.
    sym (admin_canon c.args.octets.now c.args.octets.now c.args.slash c.requires.found c.requires.inside (sym c.if-is_admin_authority.ensures) (sym (stays_lower c.args.octets.now (sym c.is_lower.ensures ∙ lower))))

pub returns-else-is_admin_authority : goal.returns-else-is_admin_authority
returns-else-is_admin_authority c = λ lower.
    let front = stays_lower (take c.args.slash c.args.octets.now) (sym c.is_lower-else-is_admin_authority.ensures ∙ lower) in
    sym (other_canon c.args.octets.now c.args.octets.now c.args.slash c.requires.found c.requires.inside (sym c.if-is_admin_authority.ensures) (sym (take-append-drop c.args.slash c.args.octets.now) ∙ ap (λ xs. xs ++ drop c.args.slash c.args.octets.now) (sym front)))
