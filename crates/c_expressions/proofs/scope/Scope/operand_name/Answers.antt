use Rattle.std.proofs.Common.{◌∙◌, ap, sym, Some}
use Rattle.base.specs.declared.fault.TextFault.{TextFault}
use Rattle.c_expressions.proofs.Spending.{bad_operand, long_operand, many_operand, go_operand}
use Rattle.c_expressions.proofs.scope.Scope.operand_name.Goals as goal

pub returns-in_default-clause-read : goal.returns-in_default-clause-read
returns-in_default-clause-read c = λ d s.
    bad_operand c.args.self.now d c.args.tally.now.tokens s c.args.name.now c.at-is_cell.result c.args.tokens.now
    c.take.new.self c.requires c.take.ensures (sym c.at-is_cell.ensures)
    (c.in_default.ensures.sort d c.args.tally.now.tokens)
    ∙ ap (λ (f : TextFault). Some f) (sym c.fault-undeclared.ensures)

pub returns-then-name-gt-MAX_NAME-clause-read : goal.returns-then-name-gt-MAX_NAME-clause-read
returns-then-name-gt-MAX_NAME-clause-read c = λ d s.
    long_operand c.args.self.now d c.args.tally.now.tokens s c.args.name.now c.at-is_cell.result c.args.tokens.now
    c.take.new.self c.requires c.take.ensures (sym c.at-is_cell.ensures)
    (c.in-Some.ensures.sort d c.args.tally.now.tokens) c.if-name-gt-MAX_NAME.true
    ∙ ap (λ (f : TextFault). Some f) (sym c.fault-too_many.ensures)

pub returns-then-tally-ge-MAX_TOKENS-clause-read : goal.returns-then-tally-ge-MAX_TOKENS-clause-read
returns-then-tally-ge-MAX_TOKENS-clause-read c = λ d s.
    many_operand c.args.self.now d c.args.tally.now.tokens s c.args.name.now c.at-is_cell.result c.args.tokens.now
    c.take.new.self c.requires c.take.ensures (sym c.at-is_cell.ensures)
    (c.in-Some.ensures.sort d c.args.tally.now.tokens) c.if-tally-ge-MAX_TOKENS.true
    ∙ ap (λ (f : TextFault). Some f) (sym c.fault-too_many.ensures)

pub returns-clause-read : goal.returns-clause-read
returns-clause-read c = λ d s.
    go_operand c.args.self.now d c.args.tally.now.tokens s c.args.name.now c.at-is_cell.result c.args.tokens.now
    c.take.new.self c.requires c.take.ensures (sym c.at-is_cell.ensures)
    (c.in-Some.ensures.sort d c.args.tally.now.tokens) c.if-name-gt-MAX_NAME.false c.if-tally-ge-MAX_TOKENS.false
