use Rattle.host.proofs.Stopping.{stopped}
use Rattle.host.proofs.board.Board.answer.Goals as goal

pub returns-in-Some-clause-fault : goal.returns-in-Some-clause-fault
returns-in-Some-clause-fault g c =
    stopped c.args.self.state c.args.self.stop c.in-Some.stop c.answered.result c.is_reached.ensures.reached c.args.self.cause
    c.in-Some.is c.answered.ensures
