use Rattle.std.proofs.Common.{arith}
use Rattle.present.proofs.NeededCells.{shown_covers}
use Rattle.present.proofs.Table.need.Goals as goal

pub returns-in-None : goal.returns-in-None
returns-in-None c d sh = let n = c.in-None.ensures d.blocks (shown_covers c.args.self.now d sh) in omega (arith, n)

pub returns-in-Some : goal.returns-in-Some
returns-in-Some c d sh =
    let n = c.in-Some.ensures d.blocks (shown_covers c.args.self.now d sh) in omega (arith, n)
