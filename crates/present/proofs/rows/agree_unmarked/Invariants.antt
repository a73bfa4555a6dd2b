use Rattle.std.proofs.Common.{◌≡◌, ◌<◌, ℕ, true, false, Some}
use Rattle.std.specs.Prelude.{slice_get}
use Rattle.present.proofs.rows.agree_unmarked.Given as goal

abbrev pub invariant-places : goal.invariant-places
invariant-places l =
    l.all ≡ true → (k : ℕ) → k < l.k → slice_get l.marks k ≡ Some false → slice_get l.new k ≡ slice_get l.old k
