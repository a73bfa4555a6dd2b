use Rattle.std.proofs.Common.{◌≡◌, length}
use Rattle.c_temporaries.specs.States.{with_temporaries}
use Rattle.c_temporaries.specs.Temporaries.{in_place}
use Rattle.c_terminals.specs.Seen.{seen_all}
use Rattle.c_temporaries.proofs.temporaries.in_place.Given as goal

abbrev pub invariant-tokens : goal.invariant-tokens
invariant-tokens l = with_temporaries l.temporaries (seen_all l.rest) ≡ in_place (seen_all l.fn.tokens)

abbrev pub decreases-tokens : goal.decreases-tokens
decreases-tokens l = length l.rest
