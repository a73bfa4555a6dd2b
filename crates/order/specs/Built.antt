-- Why a program has no order.
use Rattle.std.specs.Prelude.{◌≡◌, false}
use Rattle.base.specs.declared.fault.OrderFault.{OrderFault}
use Rattle.base.specs.Items.{Plan}
use Rattle.base.specs.Accepted.{IsFault, Order, fault_key, key_less}
use Rattle.order.specs.declared.OrderBuildFault.{OrderBuildFault}
use Rattle.order.specs.declared.OrderBuildFault.TheVariants.{Clash, OutOfMemory}

-- no two depend items of different items overlap without being identical
abbrev pub HasNoClash : Plan → Type 0
HasNoClash plan = (f : OrderFault) → IsFault plan (Order f) → ⊥

-- the first of such pairs: the least later item, then the least earlier one, then the least cell
pub record IsFirstClash (plan : Plan) (f : OrderFault) : Type 0 where
  pub holds : IsFault plan (Order f)
  pub first : (g : OrderFault) → IsFault plan (Order g) → key_less (fault_key (Order g)) (fault_key (Order f)) ≡ false

-- why a program has no order. Memory may be wanting at any time
abbrev pub IsBuildFault : Plan → OrderBuildFault → Type 0
IsBuildFault plan (Clash f) = IsFirstClash plan f
IsBuildFault plan OutOfMemory = Unit {0}
