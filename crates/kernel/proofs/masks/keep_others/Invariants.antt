use Rattle.std.proofs.Common.{ℕ, false, if◌then◌else◌}
use Rattle.std.specs.Prelude.{slice_index, slice_index_or}
use Rattle.kernel.proofs.MaskRows.{Changed}
use Rattle.kernel.proofs.masks.keep_others.Given as goal

abbrev pub invariant-lanes : goal.invariant-lanes
invariant-lanes l =
    Changed ℕ 0 (λ k n. if slice_index_or l.mask k false then n else slice_index l.others k) l.fn.numbers l.numbers l.j
