use Rattle.std.proofs.Common.{sym, ◌∙◌}
use Rattle.ranges.proofs.FirstTurns.{first_turn_tells}
use Rattle.ranges.proofs.deciding.telling_turns.Goals as goal

pub returns-else-body_decides : goal.returns-else-body_decides
returns-else-body_decides c =
    first_turn_tells c.args.level c.args.body.now c.first_turn.result c.args.bounds
    (sym c.body_decides.ensures ∙ c.if-body_decides.false) c.first_turn.ensures.first c.first_turn.ensures.end
