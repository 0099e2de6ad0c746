use Rattle.std.proofs.Common.{sym, ap, ◌∙◌, option_map}
use Rattle.hdl_rows.proofs.Changes.{if_ok_then}
use Rattle.hdl_msg.specs.Codes.{response_number}
use Rattle.hdl_ops.proofs.Bare.{by_early, by_key}
use Rattle.hdl_ops.proofs.keys.code_for_proof.Goals as goal

pub returns-in-Some-clause-code : goal.returns-in-Some-clause-code
returns-in-Some-clause-code g c = by_early _ _ _ _ _ c.requires.table_view (sym c.code_before_key.ensures ∙ ap (option_map response_number) c.in-Some.is)

pub returns-in-None-clause-code : goal.returns-in-None-clause-code
returns-in-None-clause-code g c = if_ok_then c.code_for_key.result _ _ (λ code for_key. by_key _ _ _ _ _ c.requires.table_view (sym c.code_before_key.ensures ∙ ap (option_map response_number) c.in-None.is) for_key) c.code_for_key.ensures.code
