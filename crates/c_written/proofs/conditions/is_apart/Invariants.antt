use Rattle.std.proofs.Common.{◌≡◌, length}
use Rattle.c_grammar.specs.Conditions.{is_apart}
use Rattle.c_written.specs.Ifs.{seen_clauses, seen_part}
use Rattle.c_written.proofs.conditions.is_apart.Given as goal

abbrev pub invariant-clauses : goal.invariant-clauses
invariant-clauses l = is_apart (seen_part l.part) (seen_clauses l.rest) ≡ is_apart (seen_part l.part) (seen_clauses l.clauses)

abbrev pub decreases-clauses : goal.decreases-clauses
decreases-clauses l = length l.rest
