use Rattle.std.proofs.Common.{◌≡◌, ℕ, ◌<◌, Bool, Some, length}
use Rattle.std.specs.Prelude.{slice_get, slice_index, if◌then◌else◌}
use Rattle.regions.proofs.deciding.marked_values.Given as goal

abbrev pub invariant-levels : goal.invariant-levels
invariant-levels l = record {
  count : length l.values.items ≡ l.level;
  each : (k : ℕ) (mark : Bool) → k < l.level → slice_get l.marks k ≡ Some mark →
      slice_index l.values.items k ≡ (if mark then slice_index l.loops k else 0);
}
