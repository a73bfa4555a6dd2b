use Rattle.std.proofs.Common.{◌∙◌, sym, ap, true, false, rules}
use Rattle.c_written.specs.Stack.{held}
use Rattle.c_written.specs.Values.{seen_values}
use Rattle.c_written.specs.Forms.{numbers}
use Rattle.c_written.proofs.LineRest.{rest_none, rest_unnumbered, rest_unnamed, rest_some}
use Rattle.c_written.proofs.line_forms.Forms.rest_of.Goals as goal

pub returns-in_err-first : goal.returns-in_err-first
returns-in_err-first c =
    ap numbers c.from_residual-in_err-first.ensures
    ∙ sym (rest_unnumbered (seen_values c.args.self.now.lengths.now) (held c.args.self.now.past) c.in_ok-peek.field-0
    (sym c.in_ok-peek.ensures) (sym c.number_of.ensures ∙ c.in_err-first.was))

pub returns-in_err-bracket : goal.returns-in_err-bracket
returns-in_err-bracket c = search (rules, rest_none)

pub returns-in_err-array : goal.returns-in_err-array
returns-in_err-array c =
    ap numbers c.from_residual-in_err-array.ensures
    ∙ sym (rest_unnamed (seen_values c.args.self.now.lengths.now) (held c.args.self.now.past) c.in_ok-peek-2.field-0
    (sym c.in_ok-peek-2.ensures) c.in_err-array.ensures)

pub returns-then-begins_rest : goal.returns-then-begins_rest
returns-then-begins_rest c =
    c.cells_from.ensures
    ∙ sym (rest_some (seen_values c.args.self.now.lengths.now) (held c.args.self.now.past) c.in_ok-colon.colon
    c.in_ok-peek.field-0 c.in_ok-bracket.bracket c.in_ok-peek-2.field-0 c.in_ok-first.first c.in_ok-array.array.now true
    (sym c.in_ok-colon.ensures) (sym c.in_ok-peek.ensures) (sym c.in_ok-bracket.ensures) (sym c.in_ok-peek-2.ensures)
    (sym c.number_of.ensures ∙ c.in_ok-first.was) c.in_ok-array.ensures (sym c.if-begins_rest.ensures))

pub returns-else-begins_rest : goal.returns-else-begins_rest
returns-else-begins_rest c =
    sym (rest_some (seen_values c.args.self.now.lengths.now) (held c.args.self.now.past) c.in_ok-colon.colon
    c.in_ok-peek.field-0 c.in_ok-bracket.bracket c.in_ok-peek-2.field-0 c.in_ok-first.first c.in_ok-array.array.now false
    (sym c.in_ok-colon.ensures) (sym c.in_ok-peek.ensures) (sym c.in_ok-bracket.ensures) (sym c.in_ok-peek-2.ensures)
    (sym c.number_of.ensures ∙ c.in_ok-first.was) c.in_ok-array.ensures (sym c.if-begins_rest.ensures))
