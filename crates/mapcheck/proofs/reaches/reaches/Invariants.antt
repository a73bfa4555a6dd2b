use Rattle.base.specs.Items.{plan}
use Rattle.mapcheck.specs.Reaches.{AreFirstReaches}
use Rattle.mapcheck.proofs.reaches.reaches.Given as goal

abbrev pub invariant-items : goal.invariant-items
invariant-items l = AreFirstReaches (plan l.outlined) l.counter l.all.items
