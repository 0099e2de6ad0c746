use Rattle.std.proofs.Common.{◌∙◌, Some}
use Rattle.std.proofs.lemmas.List.{length-set}
use Rattle.hdl_pool.proofs.AssemblyLemmas.{put_is, put_missing}
use Rattle.hdl_pool.proofs.assembly.Assembly.put.Goals as goal

pub invariant_of-self : goal.invariant_of-self
invariant_of-self c = (
  length-set c.self.inside.payloads.items c.args.number (Some c.in_ok-copy.copy) ∙ c.self.invariant.0,
  put_missing c.args.self.now c.self.inside.key c.self.inside.message_len c.args.number c.self.inside.missing c.self.inside.payloads.items c.in_ok-copy.copy c.self.view_is c.self.invariant.0 c.self.invariant.1 c.requires.number c.requires.new,
)

pub returns-clause-ok : goal.returns-clause-ok
returns-clause-ok c = put_is c.args.self.now c.self.inside.key c.self.inside.message_len c.args.number c.self.inside.payloads.items c.in_ok-copy.copy c.args.payload.now c.self.view_is c.in_ok-copy.ensures.items
