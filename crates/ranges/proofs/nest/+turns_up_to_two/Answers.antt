use Rattle.std.proofs.Common.{sym, ap, ◌∙◌}
use Rattle.base.specs.Meaning.{turns_of}
use Rattle.ranges.specs.Ways.{nest_in}
use Rattle.ranges.proofs.NestTurns.{least_two, nest_count}
use Rattle.ranges.proofs.nest.+turns_up_to_two.Goals as goal

pub returns-in-Some : goal.returns-in-Some
returns-in-Some t c loops =
    let inner = c.turns_up_to_two-inner.result in
    c.min.ensures
    ∙ least_two c.saturating_mul.result c.turns.result inner (turns_of c.in-Some.nest.bounds) c.turns.ensures
    c.saturating_mul.ensures
    ∙ nest_count c.args.depth c.args.body.now loops c.in-Some.nest.bounds c.in-Some.nest.body.now inner
    (sym c.nest_at.ensures.found ∙ ap nest_in c.in-Some.is) c.turns_up_to_two-inner.ensures
