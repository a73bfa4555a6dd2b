use Rattle.std.proofs.Common.{List, sym, subst}
use Rattle.std.proofs.lemmas.Bool.{and_parts}
use Rattle.base.specs.declared.tree.Stmt.{Stmt}
use Rattle.kernel.specs.Loops.{AreSettled, IsSettled}
use Rattle.kernel.proofs.ChoiceRows.{settled_If}
use Rattle.kernel.proofs.apart.+settled.Goals as goal

pub is_settled-returns-in-If : goal.is_settled-returns-in-If
is_settled-returns-in-If t c = λ e.
    let body = c.args.body.now in
    let l = and_parts c.are_settled.result c.are_settled-in-If.result e in
    subst (λ (s : Stmt). IsSettled body s) (sym c.in-If.is)
    (settled_If c.in-If.field-0 c.in-If.first c.in-If.second body
    (subst (λ (xs : List Stmt). AreSettled body xs) c.deref.ensures.value (c.are_settled.ensures l.0))
    (subst (λ (xs : List Stmt). AreSettled body xs) c.deref-in-If.ensures.value (c.are_settled-in-If.ensures l.1)))
