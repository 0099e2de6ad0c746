use Rattle.hdl_serve.proofs.rounds.serve_round.Goals as goal

pub returns-clause-serving : goal.returns-clause-serving
returns-clause-serving g c = λ w before changes h. c.serve_shares.ensures.serving w before changes (c.serve_writer.ensures w before changes h)

pub returns-then-serve_writer-clause-serving : goal.returns-then-serve_writer-clause-serving
returns-then-serve_writer-clause-serving g c = λ w before changes h. c.serve_writer.ensures w before changes h
