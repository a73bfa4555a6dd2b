-- The count after an exit.
use Rattle.std.proofs.Common.{ℕ, ◌≤◌, arith}
use Rattle.base.specs.declared.item.MapKind.{MapKind}
use Rattle.base.specs.declared.item.MapKind.TheVariants.{To, From, ToFrom, Alloc, Release, Delete}
use Rattle.base.specs.Map.{exit_count}

-- an exit does not raise it
pub exit_low : (kind : MapKind) (n : ℕ) → exit_count kind n ≤ n
exit_low To n = omega arith
exit_low From n = omega arith
exit_low ToFrom n = omega arith
exit_low Alloc n = omega arith
exit_low Release n = omega arith
exit_low Delete n = omega arith
