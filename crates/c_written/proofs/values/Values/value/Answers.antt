use Rattle.std.proofs.Common.{◌∙◌, sym, ap}
use Rattle.c_grammar.specs.Expressions.{Values, value_of}
use Rattle.c_written.proofs.Naming.{newest_is, newest_not, all_constants}
use Rattle.c_written.proofs.values.Values.value.Goals as goal
use Rattle.c_written.proofs.values.Values.value.Goals.{then-eq, else-eq}

pub constants-preserved : goal.constants-preserved
constants-preserved c = elim c.if-eq.branch [
  | then-eq w ↦ w.found-is ∙ sym (newest_is c.args.self.now.constants.items c.deref-constant-items.result.now
      c.constants.constant-index _ c.args.name.now c.deref-constant-items.ensures.value c.constants-test.true
      (sym c.eq.ensures ∙ w.if-eq.true))
  | else-eq w ↦ w.found-is ∙ c.constants.invariant ∙ sym (newest_not c.args.self.now.constants.items
      c.deref-constant-items.result.now c.constants.constant-index _ c.args.name.now
      c.deref-constant-items.ensures.value c.constants-test.true (sym c.eq.ensures ∙ w.if-eq.false))
]

pub returns : goal.returns
returns c = c.constants.invariant ∙ ap (λ (vs : Values). value_of vs c.args.name.now)
    (all_constants c.args.self.now.constants.items c.deref-constant-items.result.now c.constants.constant-index
    c.deref-constant-items.ensures.value c.constants-test.false)
