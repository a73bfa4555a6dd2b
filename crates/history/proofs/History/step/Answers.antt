use Rattle.history.proofs.Standing.{since_then}
use Rattle.history.proofs.History.step.Goals as goal

pub returns-clause-since : goal.returns-clause-since
returns-clause-since c =
    since_then c.spoil_found.result c.args.number c.args.self.now c.do_here.new.self c.spoil_found.new.self c.in_ok-do_here.ensures.since c.spoil_found.ensures.since
