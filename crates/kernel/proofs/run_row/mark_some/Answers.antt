use Rattle.std.proofs.Common.{◌≡◌, ◌+◌, ◌<◌, Bool, true, false, length, refl, arith, if◌then◌else◌}
use Rattle.std.specs.Prelude.{◌||◌, slice_index_or}
use Rattle.std.proofs.lemmas.Option.{slice_get-get_or}
use Rattle.kernel.proofs.Overs.{over_some}
use Rattle.kernel.proofs.run_row.mark_some.Goals as goal

or_is : (p w : Bool) → (p || w) ≡ (if p then true else w)
or_is true w = refl
or_is false w = refl

pub lanes-preserved : goal.lanes-preserved
lanes-preserved c =
    let ms = c.lanes.marks in
    let i = c.args.at + c.lanes.j in
    let size = c.lanes.invariant.size in
    let within : i < length ms = omega (arith, c.requires, c.lanes-test.true) in
    over_some Bool (λ k. slice_index_or c.args.mask.now k false) (λ k. true) c.args.at c.lanes.j c.args.marks.now ms _
    (slice_index_or ms i false) within (slice_get-get_or ms i false within) c.lanes.invariant
    (or_is (slice_index_or c.args.mask.now c.lanes.j false) (slice_index_or ms i false))
