use Rattle.std.proofs.Common.{Bool, false}
use Rattle.std.specs.Prelude.{◌&&◌, slice_index}
use Rattle.base.specs.Value.{is_zero}
use Rattle.kernel.proofs.MaskRows.{Changed}
use Rattle.kernel.proofs.masks.keep_false.Given as goal

abbrev pub invariant-lanes : goal.invariant-lanes
invariant-lanes l = Changed Bool false (λ k b. b && is_zero (slice_index l.numbers k)) l.fn.mask l.mask l.j
