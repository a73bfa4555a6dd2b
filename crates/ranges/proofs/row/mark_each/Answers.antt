use Rattle.std.proofs.Common.{◌+◌, ◌≤◌, sym, subst}
use mathlib.Core.Path.{fun_ext}
use Rattle.bits.specs.declared.set.BitSet.{BitSet}
use Rattle.bits.specs.Sets.{has}
use Rattle.ranges.proofs.Marks.{marks_begin, mark_passed, mark_set, marks_end, Marked}
use Rattle.ranges.proofs.Outcomes.{always_err}
use Rattle.ranges.proofs.row.mark_each.Goals.{then-not-contains, else-not-contains}
use Rattle.ranges.proofs.row.mark_each.Goals as goal

pub loop-i-init : goal.loop-i-init
loop-i-init c = record {
  begins = c.in_ok-make_room.ensures.start;
  long = c.in_ok-make_room.ensures.room;
  marked = marks_begin (has c.args.row.now) (has c.make_room.new.self) c.args.cells.lo (c.args.cells.hi + 1)
      (has c.args.excluded.now) c.in_ok-make_room.ensures.same;
}

pub loop-i-preserved : goal.loop-i-preserved
loop-i-preserved c =
    let before = has c.args.row.now in
    let excluded = has c.args.excluded.now in
    let end = c.args.cells.hi + 1 in
    let row = c.loop-i.row in
    let done : Marked before excluded c.args.cells.lo (c.loop-i.i + 1) end c.if-not-contains.row = elim c.if-not-contains.branch [
      | then-not-contains w ↦
          subst (λ (r : BitSet). Marked before excluded c.args.cells.lo (c.loop-i.i + 1) end r)
          (sym w.row-is)
          (record {
            begins = subst (λ n. n ≤ c.args.cells.lo) (sym w.insert.ensures.start) c.loop-i.invariant.begins;
            long = subst (λ n. end ≤ n) (sym w.insert.ensures.room) c.loop-i.invariant.long;
            marked = mark_set before excluded (has row) (has w.insert.new.self) c.args.cells.lo c.loop-i.i end
                (sym w.if-not-contains.ensures) c.loop-i.auto.i c.loop-i-test.true w.insert.ensures.added
                c.loop-i.invariant.marked;
          })
      | else-not-contains w ↦
          subst (λ (r : BitSet). Marked before excluded c.args.cells.lo (c.loop-i.i + 1) end r)
          (sym w.row-is)
          (record {
            begins = c.loop-i.invariant.begins;
            long = c.loop-i.invariant.long;
            marked = mark_passed before excluded (has row) c.args.cells.lo c.loop-i.i end (sym w.if-not-contains.ensures)
                c.loop-i.invariant.marked;
          })
    ] in
    record { begins = done.begins; long = done.long; marked = done.marked }

pub returns-clause-ok : goal.returns-clause-ok
returns-clause-ok c = marks_end (has c.args.row.now) (has c.args.excluded.now) (has c.loop-i.row) c.args.cells
    c.loop-i.i c.loop-i-test.false c.loop-i.invariant.marked

pub returns-in_err-make_room-clause-err : goal.returns-in_err-make_room-clause-err
returns-in_err-make_room-clause-err c = always_err c.from_residual.result (fun_ext c.make_room.ensures.same)
