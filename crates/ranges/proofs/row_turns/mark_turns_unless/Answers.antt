use mathlib.Core.Path.{fun_ext}
use Rattle.std.proofs.Common.{◌+◌, ◌≤◌, sym, subst, arith}
use Rattle.bits.specs.declared.set.BitSet.{BitSet}
use Rattle.bits.specs.Sets.{has, room, start}
use Rattle.ranges.proofs.Outcomes.{always_err}
use Rattle.ranges.proofs.TurnMarks.{AddsUnless, unless_first, unless_last, unless_next, unless_passed}
use Rattle.ranges.proofs.row_turns.mark_turns_unless.Goals.{then-not-contains, else-not-contains}
use Rattle.ranges.proofs.row_turns.mark_turns_unless.Goals as goal

pub loop-i-init : goal.loop-i-init
loop-i-init c = record {
  begins = c.in_ok-make_room.ensures.start;
  ahead = omega arith;
  long = c.in_ok-make_room.ensures.room;
  adds = unless_first (has c.args.row.now) (has c.args.excluded.now) (has c.make_room.new.self) c.args.cells c.in_ok-make_room.ensures.same;
}

pub loop-i-preserved : goal.loop-i-preserved
loop-i-preserved c =
    let before = has c.args.row.now in
    let excluded = has c.args.excluded.now in
    let b = c.args.cells in
    let i = c.loop-i.i in
    let row = c.loop-i.row in
    record {
      begins = elim c.if-not-contains.branch [
        | then-not-contains w ↦ subst (λ (r : BitSet). start r ≤ b.first) (sym w.row-is)
            (subst (λ n. n ≤ b.first) (sym w.insert.ensures.start) c.loop-i.invariant.begins)
        | else-not-contains w ↦ subst (λ (r : BitSet). start r ≤ b.first) (sym w.row-is) c.loop-i.invariant.begins
      ];
      ahead = let ahead = c.loop-i.invariant.ahead in omega (arith, ahead);
      long = elim c.if-not-contains.branch [
        | then-not-contains w ↦ subst (λ (r : BitSet). b.end ≤ room r) (sym w.row-is)
            (subst (λ n. b.end ≤ n) (sym w.insert.ensures.room) c.loop-i.invariant.long)
        | else-not-contains w ↦ subst (λ (r : BitSet). b.end ≤ room r) (sym w.row-is) c.loop-i.invariant.long
      ];
      adds = elim c.if-not-contains.branch [
        | then-not-contains w ↦ subst (λ (r : BitSet). AddsUnless before excluded b (i + b.step) (has r)) (sym w.row-is)
            (unless_next before excluded (has row) (has w.insert.new.self) b i c.loop-i-test.true
            (sym w.if-not-contains.ensures) w.insert.ensures.added c.loop-i.invariant.adds)
        | else-not-contains w ↦ subst (λ (r : BitSet). AddsUnless before excluded b (i + b.step) (has r)) (sym w.row-is)
            (unless_passed before excluded (has row) b i c.loop-i-test.true (sym w.if-not-contains.ensures) c.loop-i.invariant.adds)
      ];
    }

pub returns-clause-ok : goal.returns-clause-ok
returns-clause-ok c =
    unless_last (has c.args.row.now) (has c.args.excluded.now) (has c.loop-i.row) c.args.cells c.loop-i.i c.loop-i-test.false
    c.loop-i.invariant.adds

pub returns-in_err-make_room-clause-err : goal.returns-in_err-make_room-clause-err
returns-in_err-make_room-clause-err c = always_err c.from_residual.result (fun_ext c.make_room.ensures.same)
