use Rattle.std.proofs.Common.{None, ◌∷◌, ◌∙◌, cond, arith}
use Rattle.c_tokens.specs.declared.kind.Sign.TheVariants as sign
use Rattle.c_grammar.specs.LineGrammar.{takes_chunk}
use Rattle.c_grammar.specs.LineMachine.{LineStack, AfterSchedule, w}
use Rattle.directives.specs.Kinds.{seen_schedule}
use Rattle.directives.proofs.Outcomes.{on_from_by}
use Rattle.directives.proofs.Sharing.{at_type, stop_type}
use Rattle.directives.proofs.line.Line.schedule_type.Goals as goal

pub returns-in_err-enter-in-Some-clause-read : goal.returns-in_err-enter-in-Some-clause-read
returns-in_err-enter-in-Some-clause-read c = λ s.
    let t = seen_schedule c.in-Some.schedule in
    let next : LineStack = cond (takes_chunk t) AfterSchedule (w sign.CloseParen) ∷ s in
    let at = at_type c.args.self.now t s c.in-Some.ensures.some in
    let failed = c.in_err-enter-in-Some.ensures.read None next in
    on_from_by c.from_residual.result _ _ _ at (grind (arith, failed))

pub returns-in_ok-enter-in-Some-clause-read : goal.returns-in_ok-enter-in-Some-clause-read
returns-in_ok-enter-in-Some-clause-read c = λ s.
    let t = seen_schedule c.in-Some.schedule in
    let next : LineStack = cond (takes_chunk t) AfterSchedule (w sign.CloseParen) ∷ s in
    at_type c.args.self.now t s c.in-Some.ensures.some ∙ c.in_ok-enter-in-Some.ensures.read None next

pub returns-in-None-clause-read : goal.returns-in-None-clause-read
returns-in-None-clause-read c = grind (arith, stop_type)
