use Rattle.base.specs.Items.{plan}
use Rattle.mapcheck.specs.Third.{AreOfFirst}
use Rattle.mapcheck.proofs.third.accesses_of.Given as goal

abbrev pub invariant-rows : goal.invariant-rows
invariant-rows l = AreOfFirst (plan l.outlined) l.number l.list.items
