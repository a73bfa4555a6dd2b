use Rattle.std.proofs.Common.{◌+◌, ◌∙◌, map, refl, sym, ap, subst, arith}
use Rattle.std.specs.Prelude.{slice_get}
use Rattle.std.proofs.lemmas.Option.{slice_get_within}
use Rattle.base.specs.Map.{blocks_after}
use Rattle.base.proofs.Moves.{entry_there}
use Rattle.base.proofs.Sections.{same_self}
use Rattle.mapwalk.specs.declared.blocks.Block.{Block}
use Rattle.mapwalk.specs.Blocks.{block_of}
use Rattle.mapwalk.specs.Spots.{AreOrdered}
use Rattle.mapwalk.proofs.OrderedBlocks.{order_of, ordered_by}
use Rattle.mapwalk.proofs.Respots.{one_counted, recounted_order, recounted_up_to}
use Rattle.mapwalk.proofs.table.Blocks.enter.Goals as goal

pub invariant_of-self-in-Inside : goal.invariant_of-self-in-Inside
invariant_of-self-in-Inside c =
    let t = c.args.self.now in
    let bs = t.blocks.items in
    let h = c.held-number.ensures in
    let n = c.held-number.result.0 in
    let b = c.held-number.result.1 in
    let after : Block = record { section = b.section; count = b.count + 1 } in
    let is = c.recount.ensures b h.there in
    let low = t.counted n b h.there in
    record {
      counted = λ k x e.
          recounted_up_to (t.entries + 1) bs n after (slice_get_within bs n b h.there) (omega (arith, low))
          (λ j y f. (let l = t.counted j y f in omega (arith, l))) k x (ap (λ xs. slice_get xs k) (sym is) ∙ e);
      ordered =
          subst (λ xs. AreOrdered xs t.spots.items) (sym is)
          (ordered_by _ _ (recounted_order bs t.spots.items (order_of bs t.spots.items t.ordered) n b after h.there refl));
    }

pub returns-in-Inside-clause-blocks : goal.returns-in-Inside-clause-blocks
returns-in-Inside-clause-blocks c =
    let t = c.args.self.now in
    let bs = t.blocks.items in
    let h = c.held-number.ensures in
    let n = c.held-number.result.0 in
    let b = c.held-number.result.1 in
    ap (map block_of) (c.recount.ensures b h.there)
    ∙ one_counted b.section (b.count + 1) bs n b h.there (same_self b.section) h.one
    ∙ sym (ap (blocks_after (map block_of bs)) (entry_there c.args.item.now (map block_of bs) (block_of b) h.inside))
