use Rattle.directives.specs.Ahead.{seen_line}
use Rattle.c_written.proofs.Joining.{joined_put}
use Rattle.c_written.proofs.nesting.joined.Goals as goal

pub returns-in_ok-joined_line-in-Line-Line : goal.returns-in_ok-joined_line-in-Line-Line
returns-in_ok-joined_line-in-Line-Line c =
    joined_put c.args.held c.args.next c.in-Line-Line.target c.in-Line-Line.inner
    (seen_line c.in_ok-joined_line-in-Line-Line.field-0) c.in-Line-Line.is-0 c.in-Line-Line.is-1 c.requires
    c.in_ok-joined_line-in-Line-Line.ensures
