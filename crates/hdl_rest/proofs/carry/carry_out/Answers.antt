use Rattle.std.proofs.Common.{◌∙◌, ap, refl}
use Rattle.hdl_msg.specs.Message.{remove, resolution}
use Rattle.hdl_rest.proofs.Ones.{carried_of, reads_of}
use Rattle.hdl_rest.proofs.Sendings.{asked_from, asked_so, carries_change, carries_reading}
use Rattle.hdl_rest.proofs.carry.carry_out.Goals as goal

pub returns-in-Put-clause-asked : goal.returns-in-Put-clause-asked
returns-in-Put-clause-asked g c = asked_from {g = g.S.ChangeServer} c.renew.ensures.asked (asked_so c.carry_put.ensures.asked (λ xs w. carries_change c.args.order.now _ c.args.body.now c.carry_put.result xs c.in-Put.is w))

pub returns-in-Mint-clause-asked : goal.returns-in-Mint-clause-asked
returns-in-Mint-clause-asked g c = asked_from {g = g.S.ChangeServer} c.renew.ensures.asked (asked_so c.carry_mint.ensures.asked (λ xs w. carries_change c.args.order.now _ c.args.body.now c.carry_mint.result xs c.in-Mint.is w))

pub returns-in-Delete-clause-asked : goal.returns-in-Delete-clause-asked
returns-in-Delete-clause-asked g c = asked_from {g = g.S.ChangeServer} c.renew.ensures.asked (asked_so c.carry_delete.ensures.asked (λ xs w. carries_change c.args.order.now _ c.args.body.now c.carry_delete.result xs c.in-Delete.is w))

pub returns-in-Remove-clause-asked : goal.returns-in-Remove-clause-asked
returns-in-Remove-clause-asked g c = asked_from {g = g.S.ChangeServer} c.renew.ensures.asked (asked_so (carried_of c.args.order.now.key (remove c.args.order.now.name c.deref.result.now) (remove c.args.order.now.name c.in-Remove.indexes.items) c.carry_remove.result (ap (λ ns. remove c.args.order.now.name ns) c.deref.ensures.value) c.carry_remove.ensures.asked) (λ xs w. carries_change c.args.order.now _ c.args.body.now c.carry_remove.result xs c.in-Remove.is w))

pub returns-in-List-clause-asked : goal.returns-in-List-clause-asked
returns-in-List-clause-asked g c = asked_from {g = g.S.ChangeServer} c.renew.ensures.asked (asked_so c.list_answer.ensures.asked (λ xs w. carries_reading c.args.order.now _ c.args.body.now c.list_answer.result xs c.in-List.is refl w))

pub returns-in-Read-clause-asked : goal.returns-in-Read-clause-asked
returns-in-Read-clause-asked g c = asked_from {g = g.S.ChangeServer} c.renew.ensures.asked (asked_so (reads_of c.args.order.now.key (resolution c.args.order.now.name c.deref-in-Read.result.now c.deref-in-Read-2.result.now) (resolution c.args.order.now.name c.in-Read.indexes.items c.in-Read.types.items) (
    ap (λ ns. resolution c.args.order.now.name ns c.deref-in-Read-2.result.now) c.deref-in-Read.ensures.value ∙ ap (λ ts. resolution c.args.order.now.name c.in-Read.indexes.items ts) c.deref-in-Read-2.ensures.value
    ) c.carry_read.ensures.asked) (λ xs w. carries_reading c.args.order.now _ c.args.body.now c.carry_read.result xs c.in-Read.is refl w))
