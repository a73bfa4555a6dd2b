use Rattle.std.proofs.Common.{◌≡◌, rules, List, Option, Some, None, refl, sym, ap, ◌∙◌, subst}
use Rattle.std.specs.Prelude.{IfNone}
use Rattle.std.proofs.lemmas.List.{with_items_is, places}
use Rattle.base.specs.Current.{after_actions}
use Rattle.mapwalk.specs.declared.causes.Cause.{Cause}
use Rattle.mapwalk.specs.declared.marks.Marks.{Marks}
use Rattle.mapwalk.specs.Causes.{IsFirstOf, region_causes}
use Rattle.mapwalk.specs.Kinds.{met_by}
use Rattle.mapwalk.specs.Regions.{region_actions}
use Rattle.mapwalk.specs.Seen.{seen_all}
use Rattle.mapwalk.specs.Sides.{after_acts, shown_by}
use Rattle.mapwalk.specs.Steps.{HasDoneHere}
use Rattle.mapwalk.specs.Table.{blocks_of}
use Rattle.mapwalk.proofs.ShownItems.{shown_of}
use Rattle.mapwalk.proofs.Verdicts.{met_is_first, met_verdict, reached_region, region_is_first, region_verdict, step_done}
use Rattle.mapwalk.proofs.steps.DeviceState.step.Goals as goal

pub returns-in-Some-clause-step : goal.returns-in-Some-clause-step
returns-in-Some-clause-step c entries w e t =
    let item = c.args.item.now in
    let bs = blocks_of c.args.self.now.blocks in
    let k = shown_by c.args.host.now c.args.self.now.current.items in
    let is = shown_of entries item w e in
    let mets = met_by item.kind item.maps.items bs in
    met_is_first w bs k c.in-Some.cause
    (met_verdict w bs k item.kind item.maps.items (Some c.in-Some.cause) is.kind is.maps
    (c.in-Some.ensures mets (c.in_ok-rows.ensures.seen ∙ ap (seen_all mets) c.new-seen.ensures)))

pub returns-in-Some-run_item-clause-step : goal.returns-in-Some-run_item-clause-step
returns-in-Some-run_item-clause-step c entries w e t =
    let item = c.args.item.now in
    let bs = blocks_of c.args.self.now.blocks in
    let k = shown_by c.args.host.now c.args.self.now.current.items in
    let is = shown_of entries item w e in
    let mets = met_by item.kind item.maps.items bs in
    let before = c.in_ok-rows.rows.before.items in
    let k1 = after_acts item.maps.items before k in
    let found : IsFirstOf (region_causes w k1) (Some c.in-Some-run_item.cause) =
    subst (λ (device : List Marks). IsFirstOf (region_causes w (after_acts item.maps.items before
    (shown_by c.args.host.now device))) (Some c.in-Some-run_item.cause)) c.deref_mut.ensures.value
    (subst (IsFirstOf (region_causes w (after_acts item.maps.items before (shown_by c.args.host.now c.deref_mut.result.now))))
    c.in-Some-run_item.is (c.run_item.ensures.cause entries w e t)) in
    region_is_first w bs k (Some c.in-Some-run_item.cause)
    (met_verdict w bs k item.kind item.maps.items None is.kind is.maps
    (c.in_default.ensures mets (c.in_ok-rows.ensures.seen ∙ ap (seen_all mets) c.new-seen.ensures)))
    (region_verdict w bs k k1 (Some c.in-Some-run_item.cause)
    (reached_region w bs k k1 item.kind item.maps.items item.maps.items before before is.kind is.maps
    c.in_ok-rows.ensures.before refl refl refl) found)

pub returns-in-None-clause-step : goal.returns-in-None-clause-step
returns-in-None-clause-step c entries w e t =
    let item = c.args.item.now in
    let bs = blocks_of c.args.self.now.blocks in
    let k = shown_by c.args.host.now c.args.self.now.current.items in
    let is = shown_of entries item w e in
    let mets = met_by item.kind item.maps.items bs in
    let before = c.in_ok-rows.rows.before.items in
    let after = c.in_ok-rows.rows.after.items in
    let k1 = after_acts item.maps.items before k in
    let k2 = after_actions (region_actions w) k1 in
    let k3 = shown_by c.run_item.new.host c.run_item.new.device in
    let none : IsFirstOf (region_causes w k1) None =
    subst (λ (device : List Marks). IsFirstOf (region_causes w (after_acts item.maps.items before
    (shown_by c.args.host.now device))) None) c.deref_mut.ensures.value
    (subst (IsFirstOf (region_causes w (after_acts item.maps.items before (shown_by c.args.host.now c.deref_mut.result.now))))
    c.in-None.is (c.run_item.ensures.cause entries w e t)) in
    let ran : k3 ≡ after_acts item.maps.items after k2 =
    subst (λ (device : List Marks). k3 ≡ after_acts item.maps.items after (after_actions (region_actions w)
    (after_acts item.maps.items before (shown_by c.args.host.now device)))) c.deref_mut.ensures.value
    (subst (λ (o : Option Cause). IfNone o (k3 ≡ after_acts item.maps.items after (after_actions (region_actions w)
    (after_acts item.maps.items before (shown_by c.args.host.now c.deref_mut.result.now))))) c.in-None.is
    (c.run_item.ensures.current entries w e t)) in
    let one = reached_region w bs k k1 item.kind item.maps.items item.maps.items before before is.kind is.maps
    c.in_ok-rows.ensures.before refl refl refl in
    let done : HasDoneHere w bs (blocks_of c.item.new.self) k k3 c.join.result.items =
    step_done w bs (blocks_of c.item.new.self) k k1 k2 k3 item.kind item.maps.items item.maps.items before after after
    c.join.result.items is.kind is.maps c.in_ok-rows.ensures.before c.in_ok-rows.ensures.after one refl ran refl refl
    c.join.ensures c.in_ok-rows.ensures.blocks
    (region_is_first w bs k None
    (met_verdict w bs k item.kind item.maps.items None is.kind is.maps
    (c.in_default.ensures mets (c.in_ok-rows.ensures.seen ∙ ap (seen_all mets) c.new-seen.ensures)))
    (region_verdict w bs k k1 None one none)) in
    subst (λ (device : List Marks). HasDoneHere w bs (blocks_of c.item.new.self) k (shown_by c.run_item.new.host device)
    c.join.result.items) (sym (with_items_is c.args.self.now.current c.run_item.new.device (search (rules, places)))) done
