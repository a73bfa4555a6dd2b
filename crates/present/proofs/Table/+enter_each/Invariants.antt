use Rattle.std.proofs.Common.{◌-◌, length}
use Rattle.present.proofs.Table.+enter_each.Given as goal

abbrev pub decreases-enter_each : goal.decreases-enter_each
decreases-enter_each l = length l.items.now - l.from
