use Rattle.std.proofs.Common.{◌≡◌, length}
use Rattle.c_grammar.specs.Conditions.{are_read}
use Rattle.c_written.specs.Ifs.{seen_clauses}
use Rattle.c_written.proofs.conditions.are_read.Given as goal

abbrev pub invariant-clauses : goal.invariant-clauses
invariant-clauses l = are_read (seen_clauses l.rest) ≡ are_read (seen_clauses l.clauses)

abbrev pub decreases-clauses : goal.decreases-clauses
decreases-clauses l = length l.rest
