use Rattle.std.proofs.Common.{◌≡◌, ◌<◌, ◌-◌, ℕ, true, length}
use Rattle.order.specs.Bare.{plan_of}
use Rattle.order.specs.Rows.{IsPart, is_in, match_of}
use Rattle.order.proofs.rows.add_matches_of.Given as goal

abbrev pub invariant-loop-next : goal.invariant-loop-next
invariant-loop-next l = record {
  later : l.item < l.next;
  part : IsPart (plan_of l.items) l.item l.row;
  kept : (k : ℕ) → is_in l.initial.row k ≡ true → is_in l.row k ≡ true;
  asked : (k : ℕ) → l.item < k → k < l.next → match_of (plan_of l.items) l.depend k ≡ true → is_in l.row k ≡ true;
}

abbrev pub decreases-loop-next : goal.decreases-loop-next
decreases-loop-next l = length l.items - l.next
