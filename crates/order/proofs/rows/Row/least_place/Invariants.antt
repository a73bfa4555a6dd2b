use Rattle.std.proofs.Common.{◌≡◌, ◌≤◌, ℕ, true}
use Rattle.order.specs.Rows.{is_in}
use Rattle.order.proofs.rows.Row.least_place.Given as goal

abbrev pub invariant-loop-place : goal.invariant-loop-place
invariant-loop-place l = record {
  down : l.place ≤ l.self.place;
  all : (k : ℕ) → l.place ≤ k → is_in l.self k ≡ true;
}

abbrev pub decreases-loop-place : goal.decreases-loop-place
decreases-loop-place l = l.place
