use Rattle.std.proofs.Common.{◌∙◌, ap}
use Rattle.directives.specs.Seen.{is_whole}
use Rattle.c_written.specs.Forms.{all_placed}
use Rattle.c_written.specs.Values.{seen_values}
use Rattle.c_written.proofs.Rows.{rows_whole}
use Rattle.c_written.proofs.row_sections.line_in_rows.Goals as goal

pub of-requires : goal.of-requires
of-requires c =
    ap is_whole c.in_ok-tokens.ensures ∙ rows_whole (seen_values c.args.grids.now) (all_placed c.tokens.result.now) c.tokens.ensures.whole
