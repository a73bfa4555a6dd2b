use Rattle.std.proofs.Common.{◌≤◌, ◌∙◌, ap, sym, arith, Some}
use Rattle.base.specs.declared.fault.TextFault.{TextFault}
use Rattle.c_expressions.proofs.Fractions.{zero_divisor, many_divisor, go_divisor}
use Rattle.c_expressions.proofs.scope.Scope.divisor.Goals as goal

pub returns-then-tally-ge-MAX_TOKENS-clause-read : goal.returns-then-tally-ge-MAX_TOKENS-clause-read
returns-then-tally-ge-MAX_TOKENS-clause-read c = λ d o s.
    let low : 1 ≤ c.in_ok-value.value = omega arith in
    many_divisor o c.args.self.now d c.args.tally.now.tokens s c.in_ok-value.value c.args.tokens.now
    c.in_ok-value.ensures.number low c.if-tally-ge-MAX_TOKENS.true
    ∙ ap (λ (f : TextFault). Some f) (sym c.fault-then-tally-ge-MAX_TOKENS.ensures)

pub returns-clause-read : goal.returns-clause-read
returns-clause-read c = λ d o s.
    let low : 1 ≤ c.in_ok-value.value = omega arith in
    go_divisor o c.args.self.now d c.args.tally.now.tokens s c.in_ok-value.value c.args.tokens.now c.take.new.self
    c.in_ok-value.ensures.number low c.if-tally-ge-MAX_TOKENS.false c.take.ensures

pub returns-then-value-eq0-clause-read : goal.returns-then-value-eq0-clause-read
returns-then-value-eq0-clause-read c = grind (arith, zero_divisor)
