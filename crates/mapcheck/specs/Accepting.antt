-- When a program is accepted.
use Rattle.base.specs.Items.{Plan}
use Rattle.base.specs.Accepted.{Fault, IsAccepted, IsFault}

-- a plan with no fault is accepted
abbrev pub FaultlessIsAccepted : Type 0
FaultlessIsAccepted = (plan : Plan) → ((f : Fault) → IsFault plan f → ⊥) → IsAccepted plan
