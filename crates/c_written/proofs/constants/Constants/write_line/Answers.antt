use Rattle.directives.specs.Ahead.{seen_line}
use Rattle.c_terminals.specs.Names.{seen_names}
use Rattle.c_written.specs.Past.{past_of}
use Rattle.c_written.specs.Values.{seen_values}
use Rattle.c_written.specs.Constants.{behind}
use Rattle.c_written.proofs.Working.{line_noted, line_put, written_more}
use Rattle.c_written.proofs.constants.Constants.write_line.Goals as goal

pub returns-in_ok-push-clause-gone : goal.returns-in_ok-push-clause-gone
returns-in_ok-push-clause-gone c = λ is.
    written_more c.args.self.now.done.items c.push.new.self.items _ _
    (behind is (seen_values c.args.self.now.values) (past_of c.args.self.now.past) c.args.self.now.left) c.in_ok-push.ensures.items
    (line_put (seen_values c.args.self.now.values) (past_of c.args.self.now.past) c.args.token c.in-Line.line
    (seen_line c.in_ok-line-2.line) c.in-Line.is c.requires.line
    (line_noted (seen_values c.args.self.now.values) (seen_values c.args.self.now.lengths) (seen_names c.args.self.now.names)
    (past_of c.args.self.now.past) _ (seen_line c.in_ok-line.line) (seen_line c.in_ok-line-2.line) c.requires.notes.lengths
    c.requires.notes.names c.in_ok-line.ensures c.in_ok-line-2.ensures))
