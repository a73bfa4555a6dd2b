use Rattle.ranges.specs.Cells.{has}
use Rattle.ranges.proofs.Known.{nothing_known}
use Rattle.ranges.proofs.walk.walk_region.Goals as goal

pub invariant_of-walk : goal.invariant_of-walk
invariant_of-walk c =
    let f = c.new.result in
    record { known = nothing_known (has f.exposed) (has f.read) (has f.sure) c.new.ensures.read }
