use Rattle.std.proofs.Common.{arith}
use Rattle.present.specs.Table.{device_of}
use Rattle.present.proofs.NeededCells.{shown_covers}
use Rattle.present.proofs.Undone.{own_shown}
use Rattle.present.proofs.Table.enter_all.Goals as goal

pub enter_each-requires-clause-room : goal.enter_each-requires-clause-room
enter_each-requires-clause-room c =
    let t = c.args.self.now in
    let sh = own_shown t in
    let n = c.in-Some.ensures (device_of t).blocks (shown_covers t (device_of t) sh) in
    let room = t.room in
    record { device = device_of t; shown = sh; room = omega (arith, n, room) }

pub returns-in-None-clause-fault : goal.returns-in-None-clause-fault
returns-in-None-clause-fault c d sh =
    let t = c.args.self.now in
    let n = c.in-None.ensures d.blocks (shown_covers t d sh) in
    omega (arith, n)
