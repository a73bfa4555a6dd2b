use Rattle.std.proofs.Common.{◌≡◌, length}
use Rattle.order.proofs.rows.unfound.Given as goal

abbrev pub invariant-loop : goal.invariant-loop
invariant-loop l = length l.rows.items ≡ l.counter
