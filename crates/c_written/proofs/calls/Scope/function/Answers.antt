use Rattle.std.proofs.Common.{◌∙◌, sym}
use Rattle.c_written.proofs.CallLists.{function_found, function_passed}
use Rattle.c_written.proofs.calls.Scope.function.Goals as goal

pub returns-then-eq : goal.returns-then-eq
returns-then-eq c =
    sym (function_found c.args.self.now.functions.items c.deref-function-items.result.now c.functions.function-index
    c.function-item.result c.args.name.now c.deref-function-items.ensures.value c.functions-test.true c.function-item.is
    (sym c.eq.ensures ∙ c.if-eq.true))
    ∙ c.functions.invariant

pub functions-preserved : goal.functions-preserved
functions-preserved c =
    sym (function_passed c.args.self.now.functions.items c.deref-function-items.result.now c.functions.function-index
    c.function-item.result c.args.name.now c.deref-function-items.ensures.value c.functions-test.true c.function-item.is
    (sym c.eq.ensures ∙ c.if-eq.false))
    ∙ c.functions.invariant
