use Rattle.std.proofs.Common.{refl}
use Rattle.device.proofs.standing.Standing.leave_kernel.Goals as goal

pub returns-clause-done : goal.returns-clause-done
returns-clause-done c = record { leaves = c.leave.ensures.done; lengths = c.leave.ensures.lengths; rest = refl }
