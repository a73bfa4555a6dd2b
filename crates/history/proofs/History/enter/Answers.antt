use Rattle.history.proofs.Standing.{since_then}
use Rattle.history.proofs.History.enter.Goals as goal

pub returns-clause-since : goal.returns-clause-since
returns-clause-since c =
    since_then c.copy_if.result c.args.number c.args.self.now c.spoil_if.new.self c.copy_if.new.self c.in_ok-spoil_if.ensures.since c.copy_if.ensures.since
