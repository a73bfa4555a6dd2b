use Rattle.std.proofs.Common.{List, sym, ◌∙◌, ap, ap₂}
use Rattle.std.specs.Prelude.{◌||◌}
use Rattle.base.specs.declared.tree.Stmt.{Stmt}
use Rattle.kernel.specs.Loops.{stored_in, stored_by}
use Rattle.kernel.proofs.ChoiceRows.{stored_If}
use Rattle.kernel.proofs.Anys.{stored_next, stored_none}
use Rattle.kernel.proofs.apart.+stored.Goals as goal

pub is_stored-loop-s-preserved : goal.is_stored-loop-s-preserved
is_stored-loop-s-preserved t c =
    stored_next c.args.array.0 c.args.all.now c.loop-s.s-index c.s-item.result _ c.loop-s-test.true c.s-item.is c.is_stored_by.ensures
    c.if-is_stored_by.false c.loop-s.invariant

pub is_stored-returns : goal.is_stored-returns
is_stored-returns t c = stored_none c.args.array.0 c.args.all.now c.loop-s.s-index c.loop-s-test.false c.loop-s.invariant

pub is_stored_by-returns-in-If : goal.is_stored_by-returns-in-If
is_stored_by-returns-in-If t c =
    ap₂ (λ p q. p || q) (c.is_stored.ensures ∙ ap (λ (xs : List Stmt). stored_in xs c.args.array.0) c.deref.ensures.value)
    (c.is_stored-in-If.ensures ∙ ap (λ (xs : List Stmt). stored_in xs c.args.array.0) c.deref-in-If.ensures.value)
    ∙ sym (stored_If c.in-If.field-0 c.in-If.first c.in-If.second c.args.array.0)
    ∙ ap (λ (s : Stmt). stored_by s c.args.array.0) (sym c.in-If.is)
