-- Runs of cells that are in a row.
use Rattle.std.proofs.Common.{◌≡◌, ℕ, ◌+◌, ◌<◌, ◌≤◌, Bool, true, ap, ◌∙◌, arith}
use Rattle.std.specs.Prelude.{◌||◌}
use Rattle.std.proofs.Math.Bool.{or-true}
use Rattle.std.proofs.lemmas.Bool.Decides.{nat_tests}
use Rattle.base.specs.declared.fault.Interval.{Interval}
use Rattle.bits.specs.declared.set.BitSet.{BitSet}
use Rattle.bits.specs.Sets.{has}
use Rattle.ranges.specs.Rows.{is_within, HasFrom}

in_interval : (cells : Interval) (i : ℕ) → cells.lo ≤ i → i < cells.hi + 1 → is_within cells i ≡ true
in_interval cells i low high = grind (arith, nat_tests)

-- an interval that was marked is a run
pub marked_run : (row new : BitSet) (cells : Interval) →
    has new ≡ (λ i. has row i || is_within cells i) →
    HasFrom new cells.lo (cells.hi + 1)
marked_run row new cells e i low high =
    ap (λ f. f i) e ∙ ap (λ b. has row i || b) (in_interval cells i low high) ∙ or-true (has row i)

-- it is kept where more is added
pub run_kept : (row new : BitSet) (first end : ℕ) (more : ℕ → Bool) → HasFrom row first end →
    has new ≡ (λ i. has row i || more i) →
    HasFrom new first end
run_kept row new first end more run e i low high = ap (λ f. f i) e ∙ ap (λ b. b || more i) (run i low high)

pub run_same : (row new : BitSet) (first end : ℕ) → HasFrom row first end → has new ≡ has row →
    HasFrom new first end
run_same row new first end run e i low high = ap (λ f. f i) e ∙ run i low high
