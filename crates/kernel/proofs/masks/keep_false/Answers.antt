use Rattle.std.proofs.Common.{Bool, false, refl, arith}
use Rattle.std.specs.Prelude.{◌&&◌, slice_index}
use Rattle.base.specs.Value.{is_zero}
use Rattle.kernel.proofs.MaskRows.{one_more, none_changed, all_narrowed}
use Rattle.kernel.proofs.masks.keep_false.Goals as goal

pub lanes-init : goal.lanes-init
lanes-init c = none_changed Bool false (λ k b. b && is_zero (slice_index c.args.numbers.now k)) c.args.mask.now

pub lanes-preserved : goal.lanes-preserved
lanes-preserved c =
    one_more Bool false (λ k b. b && is_zero (slice_index c.args.numbers.now k)) c.args.mask.now c.lanes.mask c.lanes.j _ (omega arith)
    c.lanes.invariant refl

pub returns : goal.returns
returns c =
    all_narrowed (λ k. is_zero (slice_index c.args.numbers.now k)) c.args.mask.now c.lanes.mask c.lanes.j (omega arith)
    c.lanes.invariant
