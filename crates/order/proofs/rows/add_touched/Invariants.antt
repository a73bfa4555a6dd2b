use Rattle.std.proofs.Common.{◌≡◌, ◌<◌, ◌≤◌, ◌-◌, ℕ, true, length, slice_index_or}
use Rattle.order.specs.Bare.{plan_of}
use Rattle.order.specs.Rows.{IsPart, is_in, match_of}
use Rattle.order.specs.declared.touches.Touch.{Touch}
use Rattle.order.proofs.rows.add_touched.Given as goal

abbrev pub invariant-loop-at : goal.invariant-loop-at
invariant-loop-at l = record {
  from : l.first ≤ l.at;
  part : IsPart (plan_of l.items) l.item l.row;
  kept : (k : ℕ) → is_in l.initial.row k ≡ true → is_in l.row k ≡ true;
  asked : (q : ℕ) (t : Touch) → l.first ≤ q → q < l.at →
      match_of (plan_of l.items) l.depend (slice_index_or l.touches q t).item ≡ true →
      is_in l.row (slice_index_or l.touches q t).item ≡ true;
}

abbrev pub decreases-loop-at : goal.decreases-loop-at
decreases-loop-at l = length l.touches - l.at
