use Rattle.base.specs.Items.{plan}
use Rattle.mapcheck.specs.Noted.{AreBeforeAll, AreNoted}
use Rattle.mapcheck.specs.Unordered.{NoConflictBelow}
use Rattle.mapcheck.proofs.unordered.first_conflict.Given as goal

abbrev pub invariant-items : goal.invariant-items
invariant-items l = record {
  none : NoConflictBelow (plan l.order) l.item;
  before : AreBeforeAll (plan l.order) l.item l.place;
  noted : AreNoted (plan l.order) l.accesses l.item l.noted;
}
