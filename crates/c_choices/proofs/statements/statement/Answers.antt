use Rattle.std.proofs.Common.{◌∙◌, ap, sym}
use Rattle.c_grammar.specs.Choices.{is_choice}
use Rattle.c_terminals.specs.Ahead.{ahead}
use Rattle.c_terminals.specs.Seen.{seen, seen_all}
use Rattle.c_choices.proofs.Parting.{statement_is}
use Rattle.c_choices.proofs.statements.statement.Goals as goal

pub returns-then-is_choice : goal.returns-then-is_choice
returns-then-is_choice c =
    statement_is (seen c.args.token) (ahead c.args.start) c.in_ok-rest.rest.items c.in-Some.len c.in-Some.ensures
    c.in_ok-rest.ensures
    (ap (λ ts. is_choice (seen c.args.token) (seen_all ts)) (sym c.deref.ensures.value)
    ∙ sym c.is_choice.ensures ∙ c.if-is_choice.true)
