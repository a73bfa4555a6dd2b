use Rattle.std.proofs.Common.{refl}
use Rattle.base.specs.declared.tree.ArrayId.{ArrayId}
use Rattle.base.specs.Items.{plan}
use Rattle.mapcheck.proofs.NotedCells.{all_arrays, array_more, none_yet}
use Rattle.mapcheck.proofs.noted.Noted.note_set.Goals as goal

pub arrays-init : goal.arrays-init
arrays-init c = none_yet (plan c.args.order.now) c.args.self.now c.args.touch c.args.set.now

pub arrays-preserved : goal.arrays-preserved
arrays-preserved c =
    let array : ArrayId = record { 0 = c.arrays.a } in
    array_more (plan c.args.order.now) c.args.self.now c.arrays.self c.note_row.new.self c.args.touch c.args.set.now
    c.row.result.now array c.arrays.a c.arrays.clear c.in_ok-next.next refl c.row.ensures c.arrays.invariant
    c.in_ok-next.ensures

pub returns : goal.returns
returns c =
    all_arrays (plan c.args.order.now) c.args.self.now c.arrays.self c.args.touch c.args.set.now c.arrays.a
    c.arrays-a-end.result c.arrays.clear c.arrays-test.false c.arrays-a-end.ensures.none c.arrays.invariant
