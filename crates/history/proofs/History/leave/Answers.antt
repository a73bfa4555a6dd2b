use Rattle.history.proofs.Standing.{since_then}
use Rattle.history.proofs.History.leave.Goals as goal

pub returns-clause-since : goal.returns-clause-since
returns-clause-since c =
    since_then c.spoil_if.result c.args.number c.args.self.now c.copy_if.new.self c.spoil_if.new.self c.in_ok-copy_if.ensures.since c.spoil_if.ensures.since
