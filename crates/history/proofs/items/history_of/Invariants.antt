use Rattle.base.specs.Items.{plan}
use Rattle.history.specs.Since.{IsHistory}
use Rattle.history.proofs.items.history_of.Given as goal

abbrev pub invariant-items : goal.invariant-items
invariant-items l = IsHistory (plan l.outlined) l.fn.cell l.number l.history
