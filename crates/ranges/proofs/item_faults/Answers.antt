use Rattle.ranges.proofs.ItemParts.{by_parts}
use Rattle.ranges.proofs.item_faults.Goals as goal

pub returns : goal.returns
returns c lengths w = by_parts lengths w
