use Rattle.std.proofs.Common.{true, false, sym, ap, ◌∙◌, append-nil}
use Rattle.outline.specs.Captures.{is_captured, scalar_id}
use Rattle.outline.proofs.Names.{kept_one}
use Rattle.outline.proofs.captures.scalars_in.Goals.{then-is_captured+in_ok-push, else-is_captured}
use Rattle.outline.proofs.captures.scalars_in.Goals as goal

pub scalars-preserved : goal.scalars-preserved
scalars-preserved c = elim c.if-is_captured.branch [
  | then-is_captured+in_ok-push w ↦
      kept_one (λ x. is_captured c.args.region.now x.0) scalar_id c.scalars.scalar true _ _ (sym (sym w.if-is_captured.true ∙ c.is_captured.ensures))
      c.scalars.invariant (ap (λ v. v.items) w.captures-is ∙ w.in_ok-push.ensures.items)
  | else-is_captured w ↦
      kept_one (λ x. is_captured c.args.region.now x.0) scalar_id c.scalars.scalar false _ _ (sym (sym w.if-is_captured.false ∙ c.is_captured.ensures))
      c.scalars.invariant (ap (λ v. v.items) w.captures-is ∙ sym (append-nil _))
]
