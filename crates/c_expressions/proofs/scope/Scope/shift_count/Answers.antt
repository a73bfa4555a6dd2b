use Rattle.std.proofs.Common.{◌∙◌, ap, sym, Some}
use Rattle.base.specs.declared.fault.TextFault.{TextFault}
use Rattle.c_expressions.proofs.Fractions.{large_count, many_count, go_count}
use Rattle.c_expressions.proofs.scope.Scope.shift_count.Goals as goal

pub returns-then-count-gt-MAX_SHIFT-clause-read : goal.returns-then-count-gt-MAX_SHIFT-clause-read
returns-then-count-gt-MAX_SHIFT-clause-read c = λ d o s.
    large_count o c.args.self.now d c.args.tally.now.tokens s c.in_ok-count.count c.args.tokens.now
    c.in_ok-count.ensures.number c.if-count-gt-MAX_SHIFT.true
    ∙ ap (λ (f : TextFault). Some f) (sym c.fault.ensures)

pub returns-then-tally-ge-MAX_TOKENS-clause-read : goal.returns-then-tally-ge-MAX_TOKENS-clause-read
returns-then-tally-ge-MAX_TOKENS-clause-read c = λ d o s.
    many_count o c.args.self.now d c.args.tally.now.tokens s c.in_ok-count.count c.args.tokens.now
    c.in_ok-count.ensures.number c.if-count-gt-MAX_SHIFT.false c.if-tally-ge-MAX_TOKENS.true
    ∙ ap (λ (f : TextFault). Some f) (sym c.fault-then-tally-ge-MAX_TOKENS.ensures)

pub returns-clause-read : goal.returns-clause-read
returns-clause-read c = λ d o s.
    go_count o c.args.self.now d c.args.tally.now.tokens s c.in_ok-count.count c.args.tokens.now c.take.new.self
    c.in_ok-count.ensures.number c.if-count-gt-MAX_SHIFT.false c.if-tally-ge-MAX_TOKENS.false c.take.ensures
