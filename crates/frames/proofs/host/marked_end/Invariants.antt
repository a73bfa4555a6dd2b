use Rattle.std.proofs.Common.{◌≡◌, ◌-◌, ◌<◌, ◌≤◌, ℕ, true, Some, length}
use Rattle.std.specs.Prelude.{slice_get}
use Rattle.frames.proofs.host.marked_end.Given as goal

abbrev pub invariant-places : goal.invariant-places
invariant-places l = record {
  from : l.first < l.end;
  bound : l.end ≤ length l.marks;
  marked : (k : ℕ) → l.first ≤ k → k < l.end → slice_get l.marks k ≡ Some true;
}

abbrev pub decreases-places : goal.decreases-places
decreases-places l = length l.marks - l.end
