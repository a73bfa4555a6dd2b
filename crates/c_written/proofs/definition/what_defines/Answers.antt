use Rattle.std.proofs.Common.{◌∙◌, List, sym, ap}
use Rattle.std.specs.Option.{option_map}
use Rattle.c_grammar.specs.Lexeme.{Placed}
use Rattle.c_grammar.specs.Expressions.{as_items}
use Rattle.c_grammar.specs.Constants.{definition_in, new_only}
use Rattle.c_written.specs.Lines.{seen_definition}
use Rattle.c_written.specs.Values.{seen_values}
use Rattle.c_written.proofs.Defining.{line_defines}
use Rattle.c_written.proofs.Outcomes.{same_if_ok}
use Rattle.c_written.proofs.definition.what_defines.Goals as goal

pub returns-in-Line : goal.returns-in-Line
returns-in-Line c =
    same_if_ok c.definition_in.result (option_map seen_definition) _ _ c.definition_in.ensures
    (ap (λ (ps : List Placed). new_only (seen_values c.args.values.now) (definition_in (seen_values c.args.values.now) (as_items c.args.token.line ps)))
    c.tokens.ensures.tokens
    ∙ sym (line_defines (seen_values c.args.values.now) c.args.token c.in-Line.line c.in-Line.is))
