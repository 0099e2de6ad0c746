use Rattle.std.proofs.Common.{rules}
use Rattle.hdl_value.proofs.Padding.{padded, unpadded}
use Rattle.hdl_value.proofs.data.without_padding.Goals as goal

pub returns-then-is_admin_data-clause-data : goal.returns-then-is_admin_data-clause-data
returns-then-is_admin_data-clause-data c =
    padded c.args.bytes.now c.split_at.result.0.now c.is_admin_data.result (search rules) (search rules) c.octets_fit.ensures.fit c.is_admin_data.ensures c.if-is_admin_data.true

pub returns-else-is_admin_data-clause-data : goal.returns-else-is_admin_data-clause-data
returns-else-is_admin_data-clause-data c =
    unpadded c.args.bytes.now c.split_at.result.0.now c.is_admin_data.result (search rules) c.octets_fit.ensures.fit c.is_admin_data.ensures c.if-is_admin_data.false
