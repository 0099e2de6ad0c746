use Rattle.hdl_pool.proofs.AssemblyLemmas.{not_completed}
use Rattle.hdl_pool.proofs.assembly.Assembly.completed_by.Goals as goal

pub returns-then-self-ne1 : goal.returns-then-self-ne1
returns-then-self-ne1 c =
    not_completed c.args.self.now c.self.inside.key c.self.inside.message_len c.args.number c.self.inside.missing c.self.inside.payloads.items c.args.payload.now c.self.view_is c.self.invariant.0 c.self.invariant.1 c.if-self-ne1.true
    c.requires.number c.requires.new
