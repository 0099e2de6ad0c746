use Rattle.hdl_client.proofs.session.Session.ask_site.Goals as goal

-- the reply that came is by the layout of Handle.Net
pub returns-clause-answers : goal.returns-clause-answers
returns-clause-answers g c = rw c.in_ok-reply.ensures.reply.by_wire at c.about.ensures.answers
