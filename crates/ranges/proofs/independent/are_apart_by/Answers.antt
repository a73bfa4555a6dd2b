use Rattle.ranges.proofs.HeldCells.{nothing_apart, within_apart}
use Rattle.ranges.proofs.independent.are_apart_by.Goals as goal

pub returns-in-Nothing-clause-apart : goal.returns-in-Nothing-clause-apart
returns-in-Nothing-clause-apart c holds =
    nothing_apart c.args.q c.args.span.now.lows.items c.args.span.now.highs.items c.args.bounds c.args.body.now c.requires.first
    c.in_ok-touched_all.field-0 c.in-Nothing.is c.in_ok-touched_all.ensures.holds

pub returns-in-Within-clause-apart : goal.returns-in-Within-clause-apart
returns-in-Within-clause-apart c holds =
    within_apart c.args.q c.args.span.now.lows.items c.args.span.now.highs.items c.args.bounds c.args.body.now c.requires.first
    c.in_ok-touched_all.field-0 c.in-Within.stride c.in-Within.is (c.keeps_apart.ensures holds) c.in_ok-touched_all.ensures.holds
