use Rattle.std.proofs.Common.{sym, ap}
use Rattle.std.specs.Option.{option_map}
use Rattle.c_grammar.specs.Expressions.{as_terminal}
use Rattle.c_grammar.specs.Constants.{new_only}
use Rattle.directives.specs.Seen.{seen_lexeme, seen_placed}
use Rattle.c_written.specs.Forms.{all_placed}
use Rattle.c_written.specs.Lines.{seen_definition}
use Rattle.c_written.specs.Values.{seen_values}
use Rattle.c_written.proofs.Defining.{named_with, named_without}
use Rattle.c_written.proofs.Outcomes.{same_if_ok}
use Rattle.c_written.proofs.definition.named.Goals as goal

pub returns-then-has_parameters : goal.returns-then-has_parameters
returns-then-has_parameters c =
    ap (new_only (seen_values c.args.values.now))
    (sym (named_with (seen_values c.args.values.now) c.args.line (seen_placed c.args.name) (all_placed c.args.rest.now) c.in-Name.text.now
    (ap (λ l. as_terminal (seen_lexeme l)) c.in-Name.is) (sym c.if-has_parameters.ensures)))

pub returns-else-has_parameters : goal.returns-else-has_parameters
returns-else-has_parameters c =
    same_if_ok c.defined.result (option_map seen_definition) _ _ c.defined.ensures
    (ap (new_only (seen_values c.args.values.now))
    (sym (named_without (seen_values c.args.values.now) c.args.line (seen_placed c.args.name) (all_placed c.args.rest.now)
    c.in-Name.text.now (ap (λ l. as_terminal (seen_lexeme l)) c.in-Name.is) (sym c.if-has_parameters.ensures))))
