use Rattle.std.proofs.Common.{◌∙◌, sym}
use Rattle.c_written.specs.Stack.{held}
use Rattle.c_written.proofs.LinePast.{ends_close, ends_word, ends_not, ends_none}
use Rattle.c_written.proofs.line_forms.ends_clause.Goals as goal

pub returns-then-is_sign : goal.returns-then-is_sign
returns-then-is_sign c =
    c.if-is_sign.true
    ∙ sym (ends_close (held c.args.past.now) c.in-Some.last (sym c.in-Some.ensures) (sym c.if-is_sign.ensures))

pub returns-then-is_name : goal.returns-then-is_name
returns-then-is_name c = sym (ends_word c.as_slice.result.now (held c.args.past.now) c.in-Some.last c.is_inside.result c.as_slice.ensures (sym c.in-Some.ensures)
    (sym c.if-is_sign.ensures) (sym c.if-is_name.ensures) c.is_inside.ensures)

pub returns-else-is_name : goal.returns-else-is_name
returns-else-is_name c =
    c.if-is_name.false
    ∙ sym (ends_not c.as_slice.result.now (held c.args.past.now) c.in-Some.last c.as_slice.ensures (sym c.in-Some.ensures) (sym c.if-is_sign.ensures)
    (sym c.if-is_name.ensures))

pub returns-in-None : goal.returns-in-None
returns-in-None c = sym (ends_none (held c.args.past.now) (sym c.in-None.ensures))
