use Rattle.base.specs.Items.{plan}
use Rattle.mapwalk.specs.Repeats.{AreFirstRepeats}
use Rattle.mapwalk.proofs.alike.repeats.Given as goal

abbrev pub invariant-items : goal.invariant-items
invariant-items l = AreFirstRepeats (plan l.outlined) l.number l.all.items
