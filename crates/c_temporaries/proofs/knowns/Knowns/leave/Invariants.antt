use Rattle.std.proofs.Common.{◌≡◌, length}
use Rattle.c_temporaries.specs.Parts.{seen_knowns}
use Rattle.c_temporaries.specs.Temporaries.{still_known}
use Rattle.c_temporaries.proofs.knowns.Knowns.leave.Given as goal

abbrev pub invariant-names : goal.invariant-names
invariant-names l = still_known l.depth (seen_knowns l.self) ≡ still_known l.fn.depth (seen_knowns l.fn.self)

abbrev pub decreases-names : goal.decreases-names
decreases-names l = length l.self.items.items
