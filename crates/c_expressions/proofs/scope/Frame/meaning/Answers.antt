use Rattle.std.proofs.Common.{◌∙◌, sym}
use Rattle.c_expressions.proofs.Contexts.{newest_is, newest_not, all_names}
use Rattle.std.proofs.Common.{ap}
use Rattle.c_expressions.specs.Means.{Names, meaning_of}
use Rattle.c_expressions.proofs.scope.Frame.meaning.Goals as goal
use Rattle.c_expressions.proofs.scope.Frame.meaning.Goals.{then-eq, else-eq}

pub names-preserved : goal.names-preserved
names-preserved c = elim c.if-eq.branch [
  | then-eq w ↦ w.found-is ∙ sym (newest_is c.args.self.now.names.items c.deref-declared-items.result.now
      c.names.declared-index _ c.args.name.now c.deref-declared-items.ensures.value c.names-test.true
      (sym c.eq.ensures ∙ w.if-eq.true))
  | else-eq w ↦ w.found-is ∙ c.names.invariant ∙ sym (newest_not c.args.self.now.names.items
      c.deref-declared-items.result.now c.names.declared-index _ c.args.name.now
      c.deref-declared-items.ensures.value c.names-test.true (sym c.eq.ensures ∙ w.if-eq.false))
]

pub returns : goal.returns
returns c = c.names.invariant ∙ ap (λ (ns : Names). meaning_of ns c.args.name.now)
    (all_names c.args.self.now.names.items c.deref-declared-items.result.now c.names.declared-index
    c.deref-declared-items.ensures.value c.names-test.false)
