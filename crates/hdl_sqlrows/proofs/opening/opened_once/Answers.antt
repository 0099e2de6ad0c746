use Rattle.hdl_sqlrows.proofs.Openings.{noted_once, opens_once}
use Rattle.hdl_sqlrows.proofs.opening.opened_once.Goals as goal

pub returns-clause-noted : goal.returns-clause-noted
returns-clause-noted g base = noted_once base g.args.opening.now

pub returns-clause-once : goal.returns-clause-once
returns-clause-once g base t = opens_once base t g.args.opening.now
