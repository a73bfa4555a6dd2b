use Rattle.std.proofs.Common.{◌-◌}
use Rattle.reasons.proofs.search.+search.Given as goal

abbrev pub decreases-search_turns-loop-v : goal.decreases-search_turns-loop-v
decreases-search_turns-loop-v l = l.bounds.end - l.v
