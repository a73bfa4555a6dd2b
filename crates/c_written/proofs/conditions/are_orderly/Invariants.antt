use Rattle.std.proofs.Common.{◌≡◌, length}
use Rattle.c_grammar.specs.Conditions.{are_orderly}
use Rattle.c_written.specs.Ifs.{seen_clauses}
use Rattle.c_written.specs.Spots.{all_kinds}
use Rattle.c_written.proofs.conditions.are_orderly.Given as goal

abbrev pub invariant-parts : goal.invariant-parts
invariant-parts l =
    are_orderly (all_kinds l.rest) (seen_clauses l.clauses) ≡ are_orderly (all_kinds l.parts) (seen_clauses l.clauses)

abbrev pub decreases-parts : goal.decreases-parts
decreases-parts l = length l.rest
