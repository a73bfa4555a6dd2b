use Rattle.std.proofs.Common.{true, false, sym, ap, ◌∙◌, append-nil}
use Rattle.std.specs.List.{list_any}
use Rattle.base.specs.Items.{stmt_uses}
use Rattle.outline.specs.Captures.{is_used, array_id}
use Rattle.outline.proofs.Names.{kept_one}
use Rattle.outline.proofs.uses.arrays_in.Goals.{then-in_all+in_ok-push, else-in_all}
use Rattle.outline.proofs.uses.arrays_in.Goals as goal

pub arrays-preserved : goal.arrays-preserved
arrays-preserved c = elim c.if-in_all.branch [
  | then-in_all+in_ok-push w ↦
      kept_one (λ x. is_used c.args.region.now x.0) array_id c.arrays.array true _ _ (sym (sym w.if-in_all.true
      ∙ (c.in_all.ensures ∙ ap (λ xs. list_any (stmt_uses c.arrays.array) xs) c.deref.ensures.value)))
      c.arrays.invariant (ap (λ v. v.items) w.arrays-is ∙ w.in_ok-push.ensures.items)
  | else-in_all w ↦
      kept_one (λ x. is_used c.args.region.now x.0) array_id c.arrays.array false _ _ (sym (sym w.if-in_all.false
      ∙ (c.in_all.ensures ∙ ap (λ xs. list_any (stmt_uses c.arrays.array) xs) c.deref.ensures.value)))
      c.arrays.invariant (ap (λ v. v.items) w.arrays-is ∙ sym (append-nil _))
]
