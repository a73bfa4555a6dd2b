use Rattle.std.proofs.Common.{◌≡◌, ap, ◌∙◌, subst}
use Rattle.base.specs.Current.{after_actions}
use Rattle.mapwalk.specs.Causes.{IsFirstOf, region_causes}
use Rattle.mapwalk.specs.Regions.{region_actions}
use Rattle.mapwalk.specs.Sides.{after_acts, shown_by}
use Rattle.mapwalk.proofs.ShownItems.{map_none}
use Rattle.mapwalk.proofs.steps.run_item.Goals as goal

pub returns-then-is_none-clause-current : goal.returns-then-is_none-clause-current
returns-then-is_none-clause-current c entries w e t =
    let k = shown_by c.args.host.now c.args.device.now in
    let before : shown_by c.act_all.new.host c.act_all.new.device
    ≡ after_acts c.args.item.now.maps.items c.args.rows.now.before.items k =
    c.act_all.ensures.shown ∙ (λ i. after_acts (c.deref.ensures i) (c.deref-2.ensures.value i) k) in
    map_none c.run_region-cause.result
    (λ ran. c.act_all-then-is_none.ensures.shown
    ∙ (λ i. after_acts (c.deref-then-is_none.ensures i) (c.deref-then-is_none-2.ensures.value i)
    ((ran ∙ ap (after_actions (region_actions w)) before) i)))
    (c.run_region-cause.ensures.current entries w e t)

pub returns-else-is_none-clause-cause : goal.returns-else-is_none-clause-cause
returns-else-is_none-clause-cause c entries w e t =
    let k = shown_by c.args.host.now c.args.device.now in
    subst (λ j. IsFirstOf (region_causes w j) c.run_region-cause.result)
    (c.act_all.ensures.shown ∙ (λ i. after_acts (c.deref.ensures i) (c.deref-2.ensures.value i) k))
    (c.run_region-cause.ensures.cause entries w e t)
