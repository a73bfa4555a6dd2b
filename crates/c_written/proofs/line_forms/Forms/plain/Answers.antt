use Rattle.c_grammar.specs.LineForms.{left_out, put_word}
use Rattle.directives.specs.Seen.{seen_lexeme}
use Rattle.c_written.specs.Values.{seen_values}
use Rattle.c_written.specs.Forms.{line_past}
use Rattle.c_written.proofs.LineSteps.{past_more}
use Rattle.c_written.proofs.line_forms.Forms.plain.Goals as goal

pub returns-clause-past : goal.returns-clause-past
returns-clause-past c =
    past_more c.write.result (line_past c.args.self.now.past) (line_past c.write_left_out.new.self.past) (line_past c.write.new.self.past)
    (left_out (seen_values c.args.self.now.lengths.now) (line_past c.args.self.now.past) (seen_lexeme c.args.lexeme))
    (seen_lexeme c.put_word-put.result) (put_word (seen_values c.args.self.now.values.now) (seen_lexeme c.args.lexeme))
    c.in_ok-write_left_out.ensures.past c.put_word-put.ensures c.write.ensures.past
