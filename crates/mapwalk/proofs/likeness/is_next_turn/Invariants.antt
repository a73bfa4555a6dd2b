use Rattle.std.proofs.Common.{◌+◌, ◌<◌, ℕ}
use Rattle.mapwalk.specs.Found.{all_found}
use Rattle.mapwalk.specs.Heads.{AreAlikeAt}
use Rattle.mapwalk.proofs.likeness.is_next_turn.Given as goal

abbrev pub invariant-each : goal.invariant-each
invariant-each l = (k : ℕ) → k < l.j → AreAlikeAt l.items (all_found l.found) (l.first + k) (l.number + k)
