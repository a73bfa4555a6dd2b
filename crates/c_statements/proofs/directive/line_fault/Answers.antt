use Rattle.std.proofs.Common.{◌∙◌, ap, sym, Some}
use Rattle.base.specs.declared.fault.ReadCode.{ReadCode as Code}
use Rattle.base.specs.declared.fault.TextFault.{TextFault}
use Rattle.c_expressions.specs.Cursor.{first_item}
use Rattle.c_expressions.specs.Reading.{fault_at}
use Rattle.c_expressions.specs.Scopes.{context_of}
use Rattle.c_statements.proofs.Directives.{stop_line}
use Rattle.c_statements.proofs.directive.line_fault.Goals as goal

pub returns : goal.returns
returns c = λ s.
    stop_line (context_of c.args.scope.now 0 0) s c.args.tokens.now c.requires.line c.requires.apart c.requires.within
    ∙ ap (λ (k : Code). Some (fault_at (first_item c.args.tokens.now) k)) (sym c.line_code.ensures)
    ∙ ap (λ (f : TextFault). Some f) (sym c.fault.ensures)
