use Rattle.std.proofs.Common.{◌<◌, ◌+◌, rules, arith, ◌++◌, ◌∷◌, [], sym, ◌∙◌, ap, Some}
use Rattle.std.proofs.lemmas.Grind.{common_steps}
use Rattle.std.proofs.lemmas.List.{length-map}
use Rattle.std.proofs.lemmas.Result.{on_ok_weaker}
use Rattle.base.specs.declared.tree.Part.TheViews.{the_lemmas}
use Rattle.base.specs.Items.{alone_work, host_work, items_of, target_work}
use Rattle.outline.specs.Regions.{part_entries}
use Rattle.outline.specs.Walk.{entries_in}
use Rattle.outline.proofs.Stands.{stand_is, stand_next, stand_fits}
use Rattle.outline.proofs.Trees.{stands_Block, stands_Loop, stands_Data}
use Rattle.outline.proofs.Lengths.{no_turns}
use Rattle.outline.proofs.Walks.{added_none, added_is, added_one, added_next, added_Block, added_Loop, added_Data}
use Rattle.outline.proofs.AddedTurns.{added_turn, added_turns}
use Rattle.outline.proofs.walk.+walk.Goals as goal

pub add_all-overflow_add-next : goal.add_all-overflow_add-next
add_all-overflow_add-next t c =
    let fits : c.parts.next < 4294967296 = omega (arith, c.parts.auto.next-fits) in
    let sum : c.parts.next + c.regions_in-next.result < 4294967296 =
    stand_fits (entries_in c.args.known.now) _ _ c.parts.next c.parts.part-index c.regions_in-next.result
    c.args.parts.now c.part-item.result c.parts.invariant.here (omega arith) c.part-item.is
    c.regions_in-next.ensures (simp length-map c.args.known.now.few_regions) fits in
    omega (arith, sum)

pub add_all-parts-preserved : goal.add_all-parts-preserved
add_all-parts-preserved t c = record {
  loops = c.in_ok-add_part.ensures.loops ∙ c.parts.invariant.loops;
  here =
      stand_next (entries_in c.args.known.now) _ _ c.parts.next c.parts.part-index c.regions_in-next.result
      c.args.parts.now c.part-item.result c.parts.invariant.here (omega arith) c.part-item.is c.regions_in-next.ensures
      (simp length-map c.args.known.now.few_regions);
  items =
      added_next (entries_in c.args.known.now) _ _ _ c.args.parts.now c.parts.part-index c.part-item.result
      _ _ _ (omega arith) c.part-item.is c.parts.invariant.loops c.parts.invariant.items c.in_ok-add_part.ensures.items;
}

pub add_part-add_all-requires : goal.add_part-add_all-requires
add_part-add_all-requires t c = (
  search (rules, the_lemmas),
  stands_Block (entries_in c.args.known.now) c.args.first _ _ _ c.in-Block.all _ c.in-Block.is c.deref-in-Block.ensures.value
      c.requires,
)

pub add_part-add_turns-requires : goal.add_part-add_turns-requires
add_part-add_turns-requires t c = (
  search (rules, the_lemmas),
  stands_Loop (entries_in c.args.known.now) c.args.first _ _ _ c.in-Loop.bounds c.in-Loop.body _ c.in-Loop.is
      c.deref-in-Loop.ensures.value c.requires,
)

pub add_part-add_all-requires-in-Data : goal.add_part-add_all-requires-in-Data
add_part-add_all-requires-in-Data t c = (
  search (rules, the_lemmas),
  stands_Data (entries_in c.args.known.now) c.args.first _ _ _ c.in-Data.data c.in-Data.body _ c.in-Data.is
      c.deref-in-Data-2.ensures.value c.requires,
)

pub add_part-returns-in-Block-clause-items : goal.add_part-returns-in-Block-clause-items
add_part-returns-in-Block-clause-items t c =
    on_ok_weaker c.add_all.result
    (added_Block (entries_in c.args.known.now) _ _ _ c.in-Block.all _ _ _ c.in-Block.is c.deref-in-Block.ensures.value)
    c.add_all.ensures.items

pub add_part-returns-in-Loop-clause-items : goal.add_part-returns-in-Loop-clause-items
add_part-returns-in-Loop-clause-items t c =
    on_ok_weaker c.add_turns.result
    (added_Loop (entries_in c.args.known.now) _ _ _ c.in-Loop.bounds c.in-Loop.body _ _ _ c.in-Loop.is
    c.deref-in-Loop.ensures.value)
    c.add_turns.ensures.items

pub add_part-returns-in_ok-data_item-in-Data-2-clause-items : goal.add_part-returns-in_ok-data_item-in-Data-2-clause-items
add_part-returns-in_ok-data_item-in-Data-2-clause-items t c =
    on_ok_weaker c.add_item-in-Data-2.result
    (λ ended. added_Data (entries_in c.args.known.now) _ _ _ _ _ c.in-Data.data c.in-Data.body _ _ _ _ _ _ _ c.in-Data.is
    c.deref-in-Data-2.ensures.value c.deref-in-Data.ensures.value (c.deref-in-Data-3.ensures.value
    ∙ c.in_ok-add_all-in-Data.ensures.loops) c.in_ok-add_item-in-Data.ensures
    c.in_ok-data_item-in-Data.ensures c.in_ok-add_all-in-Data.ensures.items ended
    c.in_ok-data_item-in-Data-2.ensures)
    c.add_item-in-Data-2.ensures

pub add_turns-returns-then-count_all-eq0-clause-items : goal.add_turns-returns-then-count_all-eq0-clause-items
add_turns-returns-then-count_all-eq0-clause-items t c =
    added_is (entries_in c.args.known.now) _ _ _ _
    (sym (no_turns c.args.bounds c.args.body.now c.args.known.now.lengths.now c.args.loops.now.items _ _ c.count_all.ensures
    c.if-count_all-eq0.true (omega arith)))
    (added_none (entries_in c.args.known.now) _)

pub add_turns-turns-preserved : goal.add_turns-turns-preserved
add_turns-turns-preserved t c = record {
  loops = grind (arith, common_steps);
  items =
      added_turn (entries_in c.args.known.now) _ _ c.turns.v c.args.bounds c.args.body.now _ _ _ c.turns-test.true
      (c.in_ok-push.ensures.items ∙ ap (λ ls. ls
      ++ c.turns.v ∷ []) c.turns.invariant.loops) c.in_ok-add_all.ensures.items
      ∙ c.turns.invariant.items;
}

pub add_turns-returns-clause-items : goal.add_turns-returns-clause-items
add_turns-returns-clause-items t c =
    added_turns (entries_in c.args.known.now) _ _ c.turns.v c.args.bounds c.args.body.now _ _ _ c.turns-test.false
    c.turns.invariant.items

pub add_part-returns-in_ok-host_item-in-Host-clause-items : goal.add_part-returns-in_ok-host_item-in-Host-clause-items
add_part-returns-in_ok-host_item-in-Host-clause-items t c =
    on_ok_weaker c.add_item.result
    (λ added. added_is (entries_in c.args.known.now) _ _ _ _
    (ap (λ p. items_of p c.args.known.now.lengths.now c.args.loops.now.items) (sym c.in-Host.is))
    (added_one (entries_in c.args.known.now) _ _ _ _ added
    (c.in_ok-host_item-in-Host.ensures
    ∙ ap (λ ls. Some (host_work c.in-Host.region ls)) c.deref.ensures.value)))
    c.add_item.ensures

pub add_part-host_item-requires : goal.add_part-host_item-requires
add_part-host_item-requires t c =
    stand_is (entries_in c.args.known.now) c.args.first _ _
    (ap (λ p. part_entries c.args.known.now.counts.scalars c.args.known.now.counts.arrays p) c.in-Host.is) c.requires

pub add_part-target_item-requires : goal.add_part-target_item-requires
add_part-target_item-requires t c =
    stand_is (entries_in c.args.known.now) c.args.first _ _
    (ap (λ p. part_entries c.args.known.now.counts.scalars c.args.known.now.counts.arrays p) c.in-Target.is) c.requires

pub add_part-returns-in_ok-target_item-in-Target-clause-items : goal.add_part-returns-in_ok-target_item-in-Target-clause-items
add_part-returns-in_ok-target_item-in-Target-clause-items t c =
    let lengths = c.args.known.now.lengths.now in
    on_ok_weaker c.add_item-in-Target.result
    (λ added. added_is (entries_in c.args.known.now) _ _ _ _ (ap (λ p. items_of p lengths c.args.loops.now.items) (sym c.in-Target.is))
    (added_one (entries_in c.args.known.now) _ _ _ _ added
    (c.in_ok-target_item-in-Target.ensures
    ∙ ap (λ ls. Some (target_work lengths c.in-Target.target c.in-Target.region ls)) c.deref-in-Target.ensures.value)))
    c.add_item-in-Target.ensures

pub add_part-returns-in_ok-alone_item-in-Alone-clause-items : goal.add_part-returns-in_ok-alone_item-in-Alone-clause-items
add_part-returns-in_ok-alone_item-in-Alone-clause-items t c =
    let lengths = c.args.known.now.lengths.now in
    on_ok_weaker c.add_item-in-Alone.result
    (λ added. added_is (entries_in c.args.known.now) _ _ _ _ (ap (λ p. items_of p lengths c.args.loops.now.items) (sym c.in-Alone.is))
    (added_one (entries_in c.args.known.now) _ _ _ _ added
    (c.in_ok-alone_item-in-Alone.ensures
    ∙ ap (λ ls. Some (alone_work lengths c.in-Alone.place c.in-Alone.directive ls)) c.deref-in-Alone.ensures.value)))
    c.add_item-in-Alone.ensures

pub add_turns-overflow_add-v : goal.add_turns-overflow_add-v
add_turns-overflow_add-v t c = omega (arith, c.args.bounds.no_wrap, c.turns-test.true)

pub add_all-returns-clause-items : goal.add_all-returns-clause-items
add_all-returns-clause-items t c = grind (arith, common_steps)
