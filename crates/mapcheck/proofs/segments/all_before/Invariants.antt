use Rattle.std.proofs.Common.{◌≡◌, ◌≢◌, ℕ, true, take}
use Rattle.base.specs.Items.{plan}
use Rattle.base.specs.Order.{Before}
use Rattle.mapcheck.specs.Segments.{is_one_of}
use Rattle.mapcheck.proofs.segments.all_before.Given as goal

abbrev pub invariant-items : goal.invariant-items
invariant-items l = (m : ℕ) → is_one_of m (take l.other-index l.items) ≡ true → m ≢ l.item → Before (plan l.order) m l.item
