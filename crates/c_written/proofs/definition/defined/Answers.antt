use Rattle.std.proofs.Common.{◌∙◌, sym, ap, true}
use Rattle.c_grammar.specs.Expressions.{as_items}
use Rattle.c_grammar.specs.Constants.{defined, new_only}
use Rattle.c_terminals.specs.Seen.{seen_all}
use Rattle.c_written.specs.Forms.{all_placed}
use Rattle.c_written.specs.Values.{seen_values}
use Rattle.c_written.proofs.Defining.{defined_anywhere}
use Rattle.c_written.proofs.Unending.{same_worked}
use Rattle.c_written.proofs.definition.defined.Goals as goal

pub returns : goal.returns
returns c =
    let worked = c.in_ok-worked.ensures
    ∙ same_worked (seen_values c.args.values.now) true c.args.line (all_placed c.args.lexemes.now) c.deref.result.now
    (ap seen_all c.deref.ensures.value ∙ c.in_ok-tokens.ensures) in
    c.definition_of.ensures
    ∙ ap (new_only (seen_values c.args.values.now)) (sym (defined_anywhere c.args.line c.args.name.now (all_placed c.args.lexemes.now) _)
    ∙ ap (defined c.args.name.now (as_items c.args.line (all_placed c.args.lexemes.now))) worked)
