use Rattle.std.proofs.Common.{◌≡◌, ◌-◌, false, true, length, ap, sym, arith}
use Rattle.std.proofs.lemmas.Option.{slice_get_past}
use Rattle.taskgraph.specs.Marks.{is_marked, those_from}
use Rattle.taskgraph.proofs.Those.{after_one, at_one}
use Rattle.taskgraph.proofs.marks.marked_at.Goals.{then-marks-item+else-left-eq0, else-marks-item}
use Rattle.taskgraph.proofs.marks.marked_at.Goals as goal

pub returns-then-left-eq0 : goal.returns-then-left-eq0
returns-then-left-eq0 c =
    at_one (is_marked c.args.marks.now) c.args.start c.loop-item.item c.args.end c.args.place c.loop-item.auto.item
    c.loop-item-test.true c.if-marks-item.true (omega (arith, c.loop-item.invariant, c.if-left-eq0.true))

pub loop-item-preserved : goal.loop-item-preserved
loop-item-preserved c =
    elim c.if-marks-item.branch [
      | then-marks-item+else-left-eq0 w ↦
          after_one (is_marked c.args.marks.now) c.args.start c.loop-item.item c.loop-item.left c.if-marks-item.left c.args.place
          true c.loop-item.auto.item w.if-marks-item.true (omega (arith, w.left-is, w.if-left-eq0.false)) c.loop-item.invariant
      | else-marks-item w ↦
          after_one (is_marked c.args.marks.now) c.args.start c.loop-item.item c.loop-item.left c.if-marks-item.left c.args.place
          false c.loop-item.auto.item w.if-marks-item.false (omega (arith, w.left-is)) c.loop-item.invariant
    ]

pub returns : goal.returns
returns c =
    let p = is_marked c.args.marks.now in
    let last : c.loop-item.item ≡ c.args.end =
    omega (arith, c.loop-item.auto.item-end c.requires.order, c.loop-item-test.false) in
    let all = ap (λ n. length (those_from p c.args.start (n - c.args.start))) last in
    sym (slice_get_past (those_from p c.args.start (c.args.end - c.args.start)) c.args.place
    (omega (arith, all, c.loop-item.invariant)))
