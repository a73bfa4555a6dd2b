use Rattle.std.proofs.Common.{List, sym, ◌∙◌, ap, ap₂}
use Rattle.std.specs.Prelude.{◌||◌}
use Rattle.base.specs.declared.tree.Stmt.{Stmt}
use Rattle.lanes.specs.Apart.{assigned_in, assigned_by}
use Rattle.lanes.proofs.ChoicesIn.{assigned_If}
use Rattle.kernel.proofs.Anys.{assigned_next, assigned_none}
use Rattle.kernel.proofs.apart.+assigned.Goals as goal

pub is_assigned-loop-s-preserved : goal.is_assigned-loop-s-preserved
is_assigned-loop-s-preserved t c =
    assigned_next c.args.x.0 c.args.all.now c.loop-s.s-index c.s-item.result _ c.loop-s-test.true c.s-item.is c.is_assigned_by.ensures
    c.if-is_assigned_by.false c.loop-s.invariant

pub is_assigned-returns : goal.is_assigned-returns
is_assigned-returns t c = assigned_none c.args.x.0 c.args.all.now c.loop-s.s-index c.loop-s-test.false c.loop-s.invariant

pub is_assigned_by-returns-in-If : goal.is_assigned_by-returns-in-If
is_assigned_by-returns-in-If t c =
    ap₂ (λ p q. p || q) (c.is_assigned.ensures ∙ ap (λ (xs : List Stmt). assigned_in xs c.args.x.0) c.deref.ensures.value)
    (c.is_assigned-in-If.ensures ∙ ap (λ (xs : List Stmt). assigned_in xs c.args.x.0) c.deref-in-If.ensures.value)
    ∙ sym (assigned_If c.in-If.field-0 c.in-If.first c.in-If.second c.args.x.0)
    ∙ ap (λ (s : Stmt). assigned_by s c.args.x.0) (sym c.in-If.is)
