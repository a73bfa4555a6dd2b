use Rattle.std.proofs.Common.{◌∙◌, sym}
use Rattle.std.proofs.lemmas.Bool.{or_left}
use Rattle.c_grammar.specs.Rules.{under_if}
use Rattle.c_expressions.specs.Scopes.{context_of}
use Rattle.c_expressions.proofs.Blocks.{or_other}
use Rattle.c_expressions.proofs.scope.Scope.is_next_under_if.Goals as goal

pub returns-then-is_under_if : goal.returns-then-is_under_if
returns-then-is_under_if c = λ d n. sym (or_left (under_if (context_of c.args.self.now d n)) c.args.self.now.choice
    (sym (c.is_under_if.ensures d n) ∙ c.if-is_under_if.true))

pub returns : goal.returns
returns c = λ d n. or_other (under_if (context_of c.args.self.now d n)) c.args.self.now.choice
    (sym (c.is_under_if.ensures d n) ∙ c.if-is_under_if.false)
