use Rattle.std.proofs.Common.{arith, ◌∷◌, ◌∙◌, false, None}
use Rattle.c_grammar.specs.LineMachine.{Terms}
use Rattle.directives.proofs.Bounding.{at_opening, is_opening}
use Rattle.directives.proofs.BoundsRead.{read_first}
use Rattle.directives.proofs.line.Line.first_bound.Goals as goal

pub returns-clause-read : goal.returns-clause-read
returns-clause-read c = λ act s.
    at_opening c.args.self.now act s (is_opening c.args.self.now c.requires)
    ∙ c.in_ok-enter.ensures.read None (Terms false act ∷ s) ∙ c.in_ok-first.ensures.read false act s
    ∙ c.in_ok-colon.ensures.read act s

pub returns-in_err-enter-clause-read : goal.returns-in_err-enter-clause-read
returns-in_err-enter-clause-read c = grind (arith, at_opening)

pub returns-in_err-first-clause-read : goal.returns-in_err-first-clause-read
returns-in_err-first-clause-read c = grind (arith, at_opening)

pub returns-in_err-colon-clause-read : goal.returns-in_err-colon-clause-read
returns-in_err-colon-clause-read c = grind (arith, at_opening)

pub returns-clause-tree : goal.returns-clause-tree
returns-clause-tree c = grind (arith, read_first)
