use Rattle.std.proofs.Common.{◌∙◌, sym}
use Rattle.std.proofs.lemmas.Bool.{or_left}
use Rattle.c_grammar.specs.Rules.{inside}
use Rattle.c_expressions.specs.Scopes.{context_of}
use Rattle.c_expressions.proofs.Blocks.{or_other}
use Rattle.c_expressions.proofs.scope.Scope.is_next_inside.Goals as goal

pub returns-then-is_inside : goal.returns-then-is_inside
returns-then-is_inside c = λ d n. sym (or_left (inside (context_of c.args.self.now d n)) c.args.self.now.target
    (sym (c.is_inside.ensures d n) ∙ c.if-is_inside.true))

pub returns : goal.returns
returns c = λ d n. or_other (inside (context_of c.args.self.now d n)) c.args.self.now.target
    (sym (c.is_inside.ensures d n) ∙ c.if-is_inside.false)
