use Rattle.std.proofs.Common.{refl}
use Rattle.pipeline.proofs.checking.check_outlined.Goals as goal

pub returns-in-Err-clause-told : goal.returns-in-Err-clause-told
returns-in-Err-clause-told g c = tt

pub returns-in-Ok-clause-silent : goal.returns-in-Ok-clause-silent
returns-in-Ok-clause-silent g c = refl
