use Rattle.std.proofs.Common.{◌∙◌, sym, ap, Some}
use Rattle.base.specs.declared.fault.TextFault.{TextFault}
use Rattle.c_statements.proofs.Sources.{go_reads, host_reads}
use Rattle.c_statements.proofs.right_side.begin_input.Goals as goal

pub returns-then-is_inside-clause-read : goal.returns-then-is_inside-clause-read
returns-then-is_inside-clause-read c = λ s.
    host_reads c.args.scope.now s c.args.tokens.now c.requires (sym c.is_inside.ensures ∙ c.if-is_inside.true)
    ∙ ap (λ (f : TextFault). Some f) (sym c.fault.ensures)

pub returns-clause-read : goal.returns-clause-read
returns-clause-read c = λ s.
    go_reads c.args.scope.now s c.args.tokens.now c.take.new.self c.requires
    (sym c.is_inside.ensures ∙ c.if-is_inside.false) c.take.ensures
