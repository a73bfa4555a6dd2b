use Rattle.std.proofs.Common.{◌∙◌, ap, sym}
use Rattle.c_grammar.specs.LineForms.{or_product}
use Rattle.c_written.specs.Forms.{all_placed, line_past}
use Rattle.c_written.specs.Values.{seen_values}
use Rattle.c_written.proofs.Unending.{bound_begins, number_begins, term_begins}
use Rattle.c_written.proofs.line_forms.Forms.bound.Goals as goal

pub returns-then-begins_bound : goal.returns-then-begins_bound
returns-then-begins_bound c =
    c.in_ok-or_product.ensures
    ∙ ap (or_product (seen_values c.args.self.now.values.now) (all_placed c.args.rest.now)) c.worth-bound.ensures
    ∙ bound_begins (seen_values c.args.self.now.values.now) (line_past c.args.self.now.past)
    (all_placed c.args.rest.now) c.args.tokens.now _ (sym c.if-begins_bound.ensures) c.requires c.in_ok-expression.ensures

pub returns-then-begins_term : goal.returns-then-begins_term
returns-then-begins_term c =
    c.in_ok-product.ensures ∙ term_begins (seen_values c.args.self.now.values.now) (line_past c.args.self.now.past)
    (all_placed c.args.rest.now) (sym c.if-begins_bound.ensures) (sym c.if-begins_term.ensures)

pub returns-then-begins_number : goal.returns-then-begins_number
returns-then-begins_number c =
    c.several.ensures ∙ number_begins (seen_values c.args.self.now.values.now) (line_past c.args.self.now.past)
    (all_placed c.args.rest.now) c.args.tokens.now _ (sym c.if-begins_bound.ensures) (sym c.if-begins_term.ensures)
    (sym c.if-begins_number.ensures) c.requires c.in_ok-expression-2.ensures
