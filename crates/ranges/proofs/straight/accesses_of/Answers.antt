use Rattle.ranges.proofs.StraightTouches.{all_added, next_added}
use Rattle.ranges.proofs.straight.accesses_of.Goals as goal

pub loop-s-preserved : goal.loop-s-preserved
loop-s-preserved c =
    next_added c.loop-s.accesses.items c.add_stmt.new.accesses.items c.args.all.now c.loop-s.s-index c.s-item.result
    c.loop-s-test.true c.s-item.is c.loop-s.invariant (c.in_ok-add_stmt.ensures c.if-not-branch.false)

pub returns : goal.returns
returns c = all_added c.loop-s.accesses.items c.args.all.now c.loop-s.s-index c.loop-s-test.false c.loop-s.invariant
