use Rattle.std.proofs.Common.{ap, ◌∙◌}
use Rattle.std.specs.Prelude.{slice_index}
use Rattle.kernel.proofs.TrimmedScalars.{zero_at}
use Rattle.kernel.proofs.scalars.Scalars.all.Goals as goal

pub put_first-requires-clause-zeros : goal.put_first-requires-clause-zeros
put_first-requires-clause-zeros c k =
    ap (λ xs. slice_index xs k) (c.deref_mut.ensures.value ∙ c.in-Ok.ensures.ok) ∙ zero_at 256 k
