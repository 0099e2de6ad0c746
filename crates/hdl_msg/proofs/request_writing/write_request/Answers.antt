use Rattle.std.proofs.Common.{rules, subst, sym, ap, ◌∙◌, length, List, ℕ}
use Rattle.hdl_msg.specs.Message.{header_octets, SpellsRequest}
use Rattle.hdl_msg.specs.RequestBody.{request_read}
use Rattle.hdl_msg.proofs.RequestSpelling.{can_request, length-request_message, request_is_spelt}
use Rattle.hdl_msg.proofs.request_writing.write_request.Goals as goal

pub body_fits-requires : goal.body_fits-requires
body_fits-requires c = can_request c.args.wire c.args.body.now c.requires.short

pub put_body-requires : goal.put_body-requires
put_body-requires c = can_request c.args.wire c.args.body.now c.requires.short

pub returns-clause-octets : goal.returns-clause-octets
unfolding header_octets
returns-clause-octets c = search rules

pub returns-clause-spelt : goal.returns-clause-spelt
returns-clause-spelt c =
    subst (λ (octets : List ℕ). SpellsRequest c.args.wire octets (request_read c.args.wire c.args.header c.args.body.now)) (sym (returns-clause-octets c)) (request_is_spelt c.args.wire c.args.header _ c.args.body.now c.header_fits.ensures c.body_fits.ensures c.requires.short)

pub returns-clause-length : goal.returns-clause-length
returns-clause-length c = ap length (returns-clause-octets c) ∙ length-request_message c.args.wire c.args.header c.args.body.now
