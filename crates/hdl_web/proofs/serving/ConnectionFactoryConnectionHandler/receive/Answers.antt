use Rattle.hdl_web.proofs.serving.ConnectionFactoryConnectionHandler.receive.Goals as goal

pub returns : goal.returns
returns g c = c.new.ensures c.serve_connection.ensures.runs
