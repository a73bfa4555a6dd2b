use Rattle.std.proofs.Common.{◌≡◌, ℕ, ◌∷◌, [], ◌++◌, List, length, sym, ap, subst, ◌∙◌, append_assoc, arith}
use Rattle.std.specs.Prelude.{slice_get}
use Rattle.std.specs.Vec.Iter.{into_iter_items}
use Rattle.kernel.specs.Laid.{AreLaid, LaidBy}
use Rattle.kernel.specs.Rows.{Parts}
use Rattle.kernel.proofs.Extents.{alike_next, laid_length, laid_more}
use Rattle.kernel.proofs.part.lay_rows.Goals as goal

pub lay_at-requires : goal.lay_at-requires
lay_at-requires c =
    let at = c.loop-row in
    let x = c.in-Some.row in
    let steps : into_iter_items at.row-iterator ≡ x ∷ into_iter_items c.next.new.self = c.in-Some.ensures.steps.0 in
    let place : c.len-at.result ≡ length at.yielded =
    omega (arith, c.len-at.ensures, at.laid.ok, laid_length at.yielded c.args.over.now at.laid.items at.invariant.laid) in
    alike_next c.args.rows.items c.args.over.now at.yielded x (into_iter_items c.next.new.self) c.len-at.result
    (rw steps at at.invariant.taken ∙ c.into_iter-row-iterator.ensures.into_iter_gives.0) place c.requires

pub loop-row-preserved : goal.loop-row-preserved
loop-row-preserved c =
    let at = c.loop-row in
    let x = c.in-Some.row in
    let over = c.args.over.now in
    let steps : into_iter_items at.row-iterator ≡ x ∷ into_iter_items c.next.new.self = c.in-Some.ensures.steps.0 in
    let place : c.len-at.result ≡ length at.yielded =
    omega (arith, c.len-at.ensures, at.laid.ok, laid_length at.yielded over at.laid.items at.invariant.laid) in
    record {
      taken = append_assoc at.yielded (x ∷ []) _ ∙ rw (← steps) at.invariant.taken;
      laid =
          subst (λ (ns : List Parts). AreLaid (at.yielded ++ x ∷ []) over ns) (sym c.in_ok-push.ensures.items)
          (laid_more at.yielded over at.laid.items x c.in_ok-lay_at.field-0 at.invariant.laid
          (subst (λ (k : ℕ). LaidBy (slice_get over k) x c.in_ok-lay_at.field-0) place c.in_ok-lay_at.ensures));
      left =
          let was = at.invariant.left in
          let gone = c.in-Some.ensures.steps.1 in
          let short = ap length steps in
          omega arith;
    }
