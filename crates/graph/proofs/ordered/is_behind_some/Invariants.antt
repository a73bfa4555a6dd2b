use Rattle.std.proofs.Common.{ℕ, ◌<◌, get_or}
use Rattle.base.specs.Items.{plan}
use Rattle.base.specs.Order.{Before}
use Rattle.graph.proofs.ordered.is_behind_some.Given as goal

abbrev pub invariant-items : goal.invariant-items
invariant-items l = (k : ℕ) → k < l.one-index → Before (plan l.order) (get_or l.items k 0) l.item → ⊥
