use Rattle.std.proofs.Common.{List, take, ◌+◌, refl, sym, subst, arith}
use Rattle.kernel.specs.declared.frames.Row.{Row}
use Rattle.shared_row.specs.declared.lent.RowCells.TheVariants as cells
use Rattle.device.specs.Blank.{HasRoomOf, HaveRoomOf}
use Rattle.device.proofs.Blanks.{room_more}
use Rattle.device.proofs.blank.blank_rows.Goals as goal

pub each-preserved : goal.each-preserved
each-preserved c =
    let r : Row = record { first = c.row-item.result.first; cells = cells.Own c.in_ok-with_capacity.field-0 } in
    let size = c.room.ensures in
    let room = c.in_ok-with_capacity.ensures.capacity in
    let fits : HasRoomOf c.row-item.result r =
    record { first = refl; cells = c.in_ok-with_capacity.ensures.items; room = omega (arith, size, room) } in
    subst (λ (bs : List Row). HaveRoomOf (take (c.each.row-index + 1) c.args.rows.now) bs) (sym {A = List Row} c.in_ok-push.ensures.items)
    (room_more c.args.rows.now c.each.row-index c.row-item.result c.each.blank.items r (omega arith) c.each.invariant
    (subst (λ (x : Row). HasRoomOf x r) c.row-item.is fits))
