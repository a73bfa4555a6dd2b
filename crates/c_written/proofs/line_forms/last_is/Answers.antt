use Rattle.std.proofs.Common.{◌∙◌, sym}
use Rattle.c_written.specs.Stack.{held}
use Rattle.c_written.proofs.LinePast.{last_some, last_none}
use Rattle.c_written.proofs.line_forms.last_is.Goals as goal

pub returns-in-Some : goal.returns-in-Some
returns-in-Some c =
    c.is_sign.ensures ∙ sym (last_some c.args.sign (held c.args.past.now) c.in-Some.lexeme (sym c.in-Some.ensures))

pub returns-in-None : goal.returns-in-None
returns-in-None c = sym (last_none c.args.sign (held c.args.past.now) (sym c.in-None.ensures))
