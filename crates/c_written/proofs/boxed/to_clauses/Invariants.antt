use Rattle.std.proofs.Common.{◌≡◌, ◌++◌, length}
use Rattle.c_grammar.specs.Blocks.{bare}
use Rattle.c_grammar.specs.Boxes.{to_clauses}
use Rattle.c_written.specs.Boxes.{texts}
use Rattle.c_written.specs.Forms.{all_placed}
use Rattle.c_terminals.specs.Seen.{seen_all}
use Rattle.c_written.proofs.boxed.to_clauses.Given as goal

abbrev pub invariant-names : goal.invariant-names
invariant-names l =
    all_placed l.clauses.items
    ++ to_clauses (texts l.rest) l.column (texts l.listed) (bare (seen_all l.region))
    ≡ to_clauses (texts l.names) l.column (texts l.listed) (bare (seen_all l.region))

abbrev pub decreases-names : goal.decreases-names
decreases-names l = length l.rest
