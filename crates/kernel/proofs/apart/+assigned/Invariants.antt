use Rattle.std.proofs.Common.{◌≡◌, drop}
use Rattle.lanes.specs.Apart.{assigned_in}
use Rattle.kernel.proofs.apart.+assigned.Given as goal

abbrev pub invariant-is_assigned-loop-s : goal.invariant-is_assigned-loop-s
invariant-is_assigned-loop-s l = assigned_in (drop l.s-index l.all) l.x.0 ≡ assigned_in l.all l.x.0
