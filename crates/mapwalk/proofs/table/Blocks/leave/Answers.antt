use Rattle.std.proofs.Common.{◌==◌, ◌≤◌, ◌∙◌, map, refl, sym, ap, subst, arith}
use Rattle.std.specs.Prelude.{remove, slice_get, slice_set}
use Rattle.std.proofs.lemmas.Bool.{cond-false, cond-true, eq-eqb, eqb-true, false_from_ne_true}
use Rattle.std.proofs.lemmas.Option.{slice_get_within}
use Rattle.base.specs.Map.{blocks_after, counted, exit_count, without}
use Rattle.base.proofs.Moves.{exit_there}
use Rattle.base.proofs.Sections.{same_self}
use Rattle.mapwalk.specs.declared.blocks.Block.{Block}
use Rattle.mapwalk.specs.Blocks.{block_of}
use Rattle.mapwalk.specs.Spots.{AreOrdered}
use Rattle.mapwalk.proofs.OrderedBlocks.{order_of, ordered_by}
use Rattle.mapwalk.proofs.Recounts.{exit_low}
use Rattle.mapwalk.proofs.Respots.{fewer_up_to, one_counted, one_without, recounted_order, recounted_up_to}
use Rattle.mapwalk.proofs.table.Blocks.leave.Goals as goal
use Rattle.mapwalk.proofs.table.Blocks.leave.Goals.{then-count-eq0, else-count-eq0}

pub recount-requires : goal.recount-requires
recount-requires c =
    let h = c.held-number.ensures in
    slice_get_within c.args.self.now.blocks.items c.held-number.result.0 c.held-number.result.1 h.there

pub invariant_of-self-then-count-eq0 : goal.invariant_of-self-then-count-eq0
invariant_of-self-then-count-eq0 c =
    let t = c.args.self.now in
    let bs = t.blocks.items in
    let h = c.held-number.ensures in
    let n = c.held-number.result.0 in
    let is = c.remove.ensures.removed h.spot.spot h.spot.is ∙ ap (λ m. remove bs m) h.number in
    record {
      counted = λ k x e.
          fewer_up_to t.entries bs n (slice_get_within bs n c.held-number.result.1 h.there) t.counted k x
          (ap (λ xs. slice_get xs k) (sym is) ∙ e);
      ordered = c.remove.ensures.order;
    }

pub invariant_of-self-else-count-eq0 : goal.invariant_of-self-else-count-eq0
invariant_of-self-else-count-eq0 c =
    let t = c.args.self.now in
    let bs = t.blocks.items in
    let h = c.held-number.ensures in
    let n = c.held-number.result.0 in
    let b = c.held-number.result.1 in
    let after : Block = record { section = b.section; count = c.left-count.result } in
    let is = c.recount.ensures b h.there in
    let low = t.counted n b h.there in
    let less : exit_count c.args.item.now.kind b.count ≤ b.count = exit_low c.args.item.now.kind b.count in
    let left = c.left-count.ensures in
    record {
      counted = λ k x e.
          recounted_up_to t.entries bs n after (slice_get_within bs n b h.there) (omega (arith, low, less, left)) t.counted k x
          (ap (λ xs. slice_get xs k) (sym is) ∙ e);
      ordered =
          subst (λ xs. AreOrdered xs t.spots.items) (sym is)
          (ordered_by _ _ (recounted_order bs t.spots.items (order_of bs t.spots.items t.ordered) n b after h.there refl));
    }

pub returns-after-count-eq0-clause-blocks : goal.returns-after-count-eq0-clause-blocks
returns-after-count-eq0-clause-blocks c =
    let t = c.args.self.now in
    let bs = t.blocks.items in
    let h = c.held-number.ensures in
    let n = c.held-number.result.0 in
    let b = c.held-number.result.1 in
    let old = map block_of bs in
    let m = exit_count c.args.item.now.kind b.count in
    let left = c.left-count.ensures in
    elim c.if-count-eq0.branch [
      | then-count-eq0 w ↦
          ap (λ s. map block_of s.blocks.items) w.self-is
          ∙ ap (map block_of) (w.remove.ensures.removed h.spot.spot h.spot.is ∙ ap (λ k. remove bs k) h.number)
          ∙ one_without b.section bs n b h.there (same_self b.section) h.one
          ∙ sym (cond-true (m == 0) (without old b.section) (map (counted b.section m) old) (eq-eqb m 0 (sym left ∙ w.if-count-eq0.true)))
          ∙ sym (ap (blocks_after old) (exit_there c.args.item.now old (block_of b) h.inside))
      | else-count-eq0 w ↦
          ap (λ s. map block_of s.blocks.items) w.self-is
          ∙ ap (map block_of) (w.recount.ensures b h.there)
          ∙ ap (λ k. map block_of (slice_set bs n (record { section = b.section; count = k }))) left
          ∙ one_counted b.section m bs n b h.there (same_self b.section) h.one
          ∙ sym (cond-false (m == 0) (without old b.section) (map (counted b.section m) old)
          (false_from_ne_true (m == 0) (λ e. w.if-count-eq0.false (left ∙ eqb-true m 0 e))))
          ∙ sym (ap (blocks_after old) (exit_there c.args.item.now old (block_of b) h.inside))
    ]
