use Rattle.c_expressions.proofs.Contexts.{all_sorts}
use Rattle.c_expressions.proofs.scope.Scope.meaning.Goals as goal

pub returns-clause-sort : goal.returns-clause-sort
returns-clause-sort c = all_sorts c.args.self.now c.deref-frame-items.result.now c.frames.frame-index
    c.args.name.now c.frames.found c.deref-frame-items.ensures.value c.frames-test.false c.frames.invariant
