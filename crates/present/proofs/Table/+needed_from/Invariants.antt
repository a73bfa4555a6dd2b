use Rattle.std.proofs.Common.{◌-◌, length}
use Rattle.present.proofs.Table.+needed_from.Given as goal

abbrev pub decreases-needed_from : goal.decreases-needed_from
decreases-needed_from l = length l.items.now - l.from
