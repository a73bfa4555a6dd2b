use Rattle.directives.specs.Seen.{seen_placed}
use Rattle.c_written.specs.Forms.{all_placed}
use Rattle.c_written.specs.RowSections.{seen_at}
use Rattle.c_written.specs.Values.{seen_values}
use Rattle.c_written.proofs.Rows.{rows_next}
use Rattle.c_written.proofs.row_sections.put_next.Goals as goal

pub returns : goal.returns
returns c =
    rows_next (seen_values c.args.grids.now) (seen_at c.args.at) (seen_placed c.args.token) (all_placed c.args.behind.now)
    (all_placed c.args.done.now.items) (all_placed c.put_token.new.done.items) (seen_at c.next_at.result)
    c.in_ok-put_token.ensures c.next_at.ensures
