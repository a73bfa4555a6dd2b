use Rattle.std.proofs.Common.{◌≡◌, length}
use Rattle.c_grammar.specs.Structs.{in_rows}
use Rattle.c_structs.specs.Found.{seen_found}
use Rattle.c_structs.specs.Rows.{with_rows}
use Rattle.c_terminals.specs.Seen.{seen_all}
use Rattle.c_structs.proofs.rows.in_rows.Given as goal

abbrev pub invariant-tokens : goal.invariant-tokens
invariant-tokens l = with_rows (seen_found l.found) l.rows (seen_all l.rest) ≡ in_rows (seen_all l.fn.tokens)

abbrev pub decreases-tokens : goal.decreases-tokens
decreases-tokens l = length l.rest
