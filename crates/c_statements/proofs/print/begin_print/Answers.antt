use Rattle.std.proofs.Common.{◌∙◌, sym, ap, Some}
use Rattle.base.specs.declared.fault.TextFault.{TextFault}
use Rattle.c_statements.proofs.Prints.{go_prints, host_prints}
use Rattle.c_statements.proofs.print.begin_print.Goals as goal

pub returns-then-is_inside-clause-read : goal.returns-then-is_inside-clause-read
returns-then-is_inside-clause-read c = λ s.
    host_prints c.args.scope.now s c.args.tokens.now c.requires c.if-scope-ge-MAX_STATEMENTS.false
    (sym c.is_inside.ensures ∙ c.if-is_inside.true)
    ∙ ap (λ (f : TextFault). Some f) (sym c.fault-then-is_inside.ensures)

pub returns-clause-read : goal.returns-clause-read
returns-clause-read c = λ s.
    go_prints c.args.scope.now s c.args.tokens.now c.take.new.self c.requires c.if-scope-ge-MAX_STATEMENTS.false
    (sym c.is_inside.ensures ∙ c.if-is_inside.false) c.take.ensures
