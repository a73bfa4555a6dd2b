use Rattle.std.proofs.Common.{◌≡◌, ℕ, ◌<◌, true}
use Rattle.std.specs.Prelude.{slice_index}
use Rattle.regions.specs.Deciding.{decides}
use Rattle.regions.proofs.deciding.agree_where_deciding.Given as goal

abbrev pub invariant-levels : goal.invariant-levels
invariant-levels l = (k : ℕ) → k < l.level → decides k l.region ≡ true → slice_index l.loops k ≡ slice_index l.other k
