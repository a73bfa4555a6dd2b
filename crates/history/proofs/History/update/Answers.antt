use Rattle.history.proofs.Standing.{since_then}
use Rattle.history.proofs.History.update.Goals as goal

pub returns-clause-since : goal.returns-clause-since
returns-clause-since c =
    since_then c.copy_if-2.result c.args.number c.args.self.now c.copy_if.new.self c.copy_if-2.new.self c.in_ok-copy_if.ensures.since c.copy_if-2.ensures.since
