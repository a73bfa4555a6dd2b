use Rattle.std.proofs.Common.{refl}
use Rattle.device.proofs.Rooms.{answer_within}
use Rattle.host.proofs.board.answer_of.Goals as goal

pub returns-in-Ok-clause-within : goal.returns-in-Ok-clause-within
returns-in-Ok-clause-within c =
    answer_within c.args.state.now c.args.state.now.program c.args.state.now.input c.args.state.now.capacity c.in-Ok.answer
    c.is_reached.ensures.reached c.is_reached.ensures.stayed refl refl refl c.in-Ok.ensures.history
