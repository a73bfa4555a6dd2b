use Rattle.base.specs.Items.{plan}
use Rattle.mapcheck.specs.Unordered.{IsFoundBelow}
use Rattle.mapcheck.proofs.unordered.conflict_of.Given as goal

abbrev pub invariant-others : goal.invariant-others
invariant-others l = IsFoundBelow (plan l.order) l.other l.item l.found
