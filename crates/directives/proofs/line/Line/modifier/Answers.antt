use Rattle.std.proofs.Common.{◌∷◌, ◌∙◌, Some, arith}
use Rattle.base.specs.declared.fault.ReadCode.TheVariants.{BadMapType}
use Rattle.c_tokens.specs.declared.kind.Sign.TheVariants as sign
use Rattle.c_grammar.specs.LineMachine.{MapHead, w}
use Rattle.directives.specs.Kinds.{seen_kind, seen_modifier}
use Rattle.directives.proofs.Modifying.{read_modifier}
use Rattle.directives.proofs.Outcomes.{on_from}
use Rattle.directives.proofs.Typing.{at_modifier}
use Rattle.directives.proofs.line.Line.modifier.Goals as goal

pub returns-in_err-enter-clause-read : goal.returns-in_err-enter-clause-read
returns-in_err-enter-clause-read c = λ s.
    let at = at_modifier c.args.self.now (seen_kind c.args.kind) (seen_modifier c.args.modifier) s c.requires.word
    c.requires.takes in
    let failed = c.in_err-enter.ensures.read (Some BadMapType) (w sign.Comma ∷ MapHead (seen_kind c.args.kind) ∷ s) in
    on_from c.from_residual.result _ _ _ at (grind (arith, failed))

pub returns-clause-read : goal.returns-clause-read
returns-clause-read c = λ s.
    on_from c.expect.result _ _ _
    (at_modifier c.args.self.now (seen_kind c.args.kind) (seen_modifier c.args.modifier) s c.requires.word
    c.requires.takes ∙ c.in_ok-enter.ensures.read (Some BadMapType)
    (w sign.Comma ∷ MapHead (seen_kind c.args.kind) ∷ s))
    (c.expect.ensures.read (MapHead (seen_kind c.args.kind) ∷ s))

pub returns-clause-tree : goal.returns-clause-tree
returns-clause-tree c = grind (arith, read_modifier)
