use Rattle.directives.proofs.ClausesRead.{read_motion}
use Rattle.directives.proofs.Clausing.{at_motion}
use Rattle.directives.proofs.Outcomes.{failed_from}
use Rattle.c_grammar.specs.LineMachine.{Clauses}
use Rattle.directives.specs.Kinds.{seen_kind}
use Rattle.directives.specs.Reading.{Failed, rest}
use Rattle.std.proofs.Common.{◌∙◌, ◌∷◌, arith}
use Rattle.directives.proofs.line.Line.motion_clause.Goals as goal

pub returns-in_err-enter-clause-read : goal.returns-in_err-enter-clause-read
returns-in_err-enter-clause-read c = grind (arith, at_motion)

pub returns-in_err-expect-clause-read : goal.returns-in_err-expect-clause-read
returns-in_err-expect-clause-read c = grind (arith, at_motion)

pub returns-in_err-sections-clause-read : goal.returns-in_err-sections-clause-read
returns-in_err-sections-clause-read c = λ s.
    let begins = at_motion c.args.self.now _ _ s c.requires.takes c.requires.word ∙ c.in_ok-enter.ensures.read _ _
    ∙ c.in_ok-expect.ensures.read _ ∙ c.present-present.ensures.read _ in
    let fails : Failed c.in_err-sections.field-0.0 (rest c.args.self.now (Clauses (seen_kind c.args.kind) ∷ s)) =
    failed_from _ _ _ begins (c.in_err-sections.ensures.read _) in
    grind (arith, fails)

pub returns-clause-read : goal.returns-clause-read
returns-clause-read c = grind (arith, at_motion)

pub returns-clause-tree : goal.returns-clause-tree
returns-clause-tree c = grind (arith, read_motion)
