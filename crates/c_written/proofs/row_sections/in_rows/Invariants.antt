use Rattle.std.proofs.Common.{◌≡◌, ◌++◌, length}
use Rattle.c_grammar.specs.Grids.{Elsewhere, in_rows}
use Rattle.c_written.specs.Forms.{all_placed}
use Rattle.c_written.specs.RowSections.{seen_at}
use Rattle.c_written.specs.Values.{seen_values}
use Rattle.c_written.proofs.row_sections.in_rows.Given as goal

abbrev pub invariant-tokens : goal.invariant-tokens
invariant-tokens l =
    all_placed l.done.items ++ in_rows (seen_values l.grids) (seen_at l.at) (all_placed l.rest)
    ≡ in_rows (seen_values l.grids) Elsewhere (all_placed l.fn.tokens)

abbrev pub decreases-tokens : goal.decreases-tokens
decreases-tokens l = length l.rest
