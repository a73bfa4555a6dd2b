use mathlib.Core.Path.{fun_ext}
use Rattle.std.proofs.Common.{arith}
use Rattle.bits.specs.Sets.{has}
use Rattle.ranges.proofs.Outcomes.{always_err}
use Rattle.ranges.proofs.TurnMarks.{adds_first, adds_last, adds_next}
use Rattle.ranges.proofs.row_turns.mark_turns.Goals as goal

pub loop-i-init : goal.loop-i-init
loop-i-init c = record {
  begins = c.in_ok-make_room.ensures.start;
  ahead = omega arith;
  long = c.in_ok-make_room.ensures.room;
  adds = adds_first (has c.args.row.now) (has c.make_room.new.self) c.args.cells c.in_ok-make_room.ensures.same;
}

pub loop-i-preserved : goal.loop-i-preserved
loop-i-preserved c = record {
  begins = let same = c.insert.ensures.start in let begins = c.loop-i.invariant.begins in omega (arith, same, begins);
  ahead = let ahead = c.loop-i.invariant.ahead in omega (arith, ahead);
  long = let same = c.insert.ensures.room in let long = c.loop-i.invariant.long in omega (arith, same, long);
  adds = adds_next (has c.args.row.now) (has c.loop-i.row) (has c.insert.new.self) c.args.cells c.loop-i.i c.loop-i-test.true
      c.insert.ensures.added c.loop-i.invariant.adds;
}

pub returns-clause-ok : goal.returns-clause-ok
returns-clause-ok c = adds_last (has c.args.row.now) (has c.loop-i.row) c.args.cells c.loop-i.i c.loop-i-test.false c.loop-i.invariant.adds

pub returns-in_err-make_room-clause-err : goal.returns-in_err-make_room-clause-err
returns-in_err-make_room-clause-err c = always_err c.from_residual.result (fun_ext c.make_room.ensures.same)
