use Rattle.std.proofs.Common.{ℕ}
use Rattle.history.specs.Places.{Places}
use Rattle.history.specs.Since.{AreSince}
use Rattle.reasons.proofs.past.enter_all.Given as goal

abbrev pub invariant-maps : goal.invariant-maps
invariant-maps l = (past : ℕ → Places) → AreSince past l.fn.number l.fn.history → AreSince past l.fn.number l.history
