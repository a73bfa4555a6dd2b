use Rattle.std.proofs.Common.{◌∙◌, sym}
use Rattle.c_written.specs.Stack.{held}
use Rattle.c_written.proofs.LinePast.{word_is, word_none}
use Rattle.c_written.proofs.line_forms.word_at.Goals as goal

pub returns-in-Some : goal.returns-in-Some
returns-in-Some c = c.text_of.ensures ∙ sym (word_is (held c.args.past.now) c.args.behind c.in-Some.lexeme (sym c.in-Some.ensures))

pub returns-in-None : goal.returns-in-None
returns-in-None c = sym (word_none (held c.args.past.now) c.args.behind (sym c.in-None.ensures))
