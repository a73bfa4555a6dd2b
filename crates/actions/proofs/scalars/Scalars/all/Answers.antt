use Rattle.actions.proofs.TrimmedScalars.{zero_at}
use Rattle.actions.proofs.scalars.Scalars.all.Goals as goal

pub put_first-requires-clause-zeros : goal.put_first-requires-clause-zeros
put_first-requires-clause-zeros c k = zero_at 256 k
