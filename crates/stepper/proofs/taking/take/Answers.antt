use Rattle.std.proofs.Common.{sym, subst}
use Rattle.std.proofs.lemmas.Result.{IfErr-weaker, on_ok_weaker}
use Rattle.std.proofs.lemmas.Option.{slice_get_within}
use Rattle.base.specs.declared.item.Event.TheVariants as event
use Rattle.base.specs.Items.{plan}
use Rattle.base.proofs.ShortArrays.{are_short}
use Rattle.outline.specs.Regions.{entries_of}
use Rattle.stepper.specs.Opening.{region_in}
use Rattle.stepper.specs.Taking.{Does, IsAble, IsTakeFault}
use Rattle.stepper.proofs.Able.{allowed, close_allowed, found, found_sections, gen_inside, in_items, item_inside, known, not_at_rest, on_device, open_fault, opened_ready, step_fault}
use Rattle.stepper.proofs.Certain.{closed, ended, generated, waited}
use Rattle.stepper.proofs.taking.take.Goals as goal

pub generate-requires-clause-here : goal.generate-requires-clause-here
generate-requires-clause-here c =
    let able = (subst (IsAble (plan c.args.outlined.now) c.args.standing.now) c.in-Gen.is c.requires.able) in allowed (plan c.args.outlined.now) c.args.standing.now able.state (event.Gen c.in-Gen.item) able.at able.going able.may

pub generate-requires-clause-inside : goal.generate-requires-clause-inside
generate-requires-clause-inside c = gen_inside (plan c.args.outlined.now) c.args.standing.now c.in-Gen.item (subst (IsAble (plan c.args.outlined.now) c.args.standing.now) c.in-Gen.is c.requires.able)

pub bounds-items-item : goal.bounds-items-item
bounds-items-item c =
    in_items (plan c.args.outlined.now) (entries_of c.args.outlined.now) c.items.result.now c.items.ensures.shown c.in-Open.item _ ((subst (IsAble (plan c.args.outlined.now) c.args.standing.now) c.in-Open.is c.requires.able)).may

pub open-requires-clause-here : goal.open-requires-clause-here
open-requires-clause-here c =
    let able = (subst (IsAble (plan c.args.outlined.now) c.args.standing.now) c.in-Open.is c.requires.able) in allowed (plan c.args.outlined.now) c.args.standing.now able.state (event.Open c.in-Open.item) able.at able.going able.may

pub open-requires-clause-inside : goal.open-requires-clause-inside
open-requires-clause-inside c = let able = (subst (IsAble (plan c.args.outlined.now) c.args.standing.now) c.in-Open.is c.requires.able) in item_inside (plan c.args.outlined.now) c.args.standing.now able.state c.in-Open.item _ able.at able.may

pub open-requires-clause-sections : goal.open-requires-clause-sections
open-requires-clause-sections c =
    found_sections (plan c.args.outlined.now) (entries_of c.args.outlined.now) c.items.result.now c.items.ensures.shown c.in-Open.item _ ((subst (IsAble (plan c.args.outlined.now) c.args.standing.now) c.in-Open.is c.requires.able)).may
    c.index-items-item.result c.index-items-item.is c.requires.fine (are_short c.args.outlined.now)

pub unreachable-requires : goal.unreachable-requires
unreachable-requires c =
    let able = (subst (IsAble (plan c.args.outlined.now) c.args.standing.now) c.in-Step.is c.requires.able) in
    let k = known (plan c.args.outlined.now) c.in-Step.item _ able.may in
    not_at_rest _ (able.state.condition c.in-Step.item) _
    (able.at.kept c.in-Step.item (slice_get_within (plan c.args.outlined.now).items c.in-Step.item k.work k.is)) k.has
    (c.is_acting.ensures.rest c.if-not-is_acting.true)

pub bounds-items-item-in-Step : goal.bounds-items-item-in-Step
bounds-items-item-in-Step c =
    in_items (plan c.args.outlined.now) (entries_of c.args.outlined.now) c.items-in-Step.result.now c.items-in-Step.ensures.shown c.in-Step.item _
    ((subst (IsAble (plan c.args.outlined.now) c.args.standing.now) c.in-Step.is c.requires.able)).may

pub step-requires-clause-inside : goal.step-requires-clause-inside
step-requires-clause-inside c = let able = (subst (IsAble (plan c.args.outlined.now) c.args.standing.now) c.in-Step.is c.requires.able) in item_inside (plan c.args.outlined.now) c.args.standing.now able.state c.in-Step.item _ able.at able.may

pub step-requires-clause-ready : goal.step-requires-clause-ready
step-requires-clause-ready c =
    let able = (subst (IsAble (plan c.args.outlined.now) c.args.standing.now) c.in-Step.is c.requires.able) in
    let k = known (plan c.args.outlined.now) c.in-Step.item _ able.may in
    opened_ready _ (able.state.condition c.in-Step.item) _
    (able.at.kept c.in-Step.item (slice_get_within (plan c.args.outlined.now).items c.in-Step.item k.work k.is)) k.has

pub step-requires-clause-shown : goal.step-requires-clause-shown
step-requires-clause-shown c =
    let able = (subst (IsAble (plan c.args.outlined.now) c.args.standing.now) c.in-Step.is c.requires.able) in
    record {
      plan = (plan c.args.outlined.now);
      state = able.state;
      device =
          on_device (plan c.args.outlined.now) (entries_of c.args.outlined.now) c.items-in-Step.result.now c.items-in-Step.ensures.shown c.in-Step.item _
          able.may c.index-items-item-in-Step.result c.index-items-item-in-Step.is c.requires.fine;
      at = able.at;
      may = able.may;
    }

pub bounds-items-item-in-Close : goal.bounds-items-item-in-Close
bounds-items-item-in-Close c =
    in_items (plan c.args.outlined.now) (entries_of c.args.outlined.now) c.items-in-Close.result.now c.items-in-Close.ensures.shown c.in-Close.item _
    ((subst (IsAble (plan c.args.outlined.now) c.args.standing.now) c.in-Close.is c.requires.able)).may

pub close-requires-clause-here : goal.close-requires-clause-here
close-requires-clause-here c = close_allowed (plan c.args.outlined.now) c.args.standing.now c.in-Close.item (subst (IsAble (plan c.args.outlined.now) c.args.standing.now) c.in-Close.is c.requires.able)

pub close-requires-clause-inside : goal.close-requires-clause-inside
close-requires-clause-inside c =
    let able = (subst (IsAble (plan c.args.outlined.now) c.args.standing.now) c.in-Close.is c.requires.able) in item_inside (plan c.args.outlined.now) c.args.standing.now able.state c.in-Close.item _ able.at able.may

pub pass-requires-clause-here : goal.pass-requires-clause-here
pass-requires-clause-here c = let able = (subst (IsAble (plan c.args.outlined.now) c.args.standing.now) c.in-Wait.is c.requires.able) in allowed (plan c.args.outlined.now) c.args.standing.now able.state (event.Wait c.in-Wait.item) able.at able.going able.may

pub returns-in-Ok-clause-done : goal.returns-in-Ok-clause-done
returns-in-Ok-clause-done c =
    subst (λ e. Does (plan c.args.outlined.now) c.args.standing.now e c.generate.new.self) (sym c.in-Gen.is)
    (λ s at may. generated (plan c.args.outlined.now) c.args.standing.now c.generate.new.self s c.in-Gen.item c.in-Ok.ensures.generated at may)

pub returns-in-Open-clause-done : goal.returns-in-Open-clause-done
returns-in-Open-clause-done c =
    let item = found (plan c.args.outlined.now) (entries_of c.args.outlined.now) c.items.result.now c.items.ensures.shown c.in-Open.item _ ((subst (IsAble (plan c.args.outlined.now) c.args.standing.now) c.in-Open.is c.requires.able)).may
    c.index-items-item.result c.index-items-item.is c.requires.fine in
    on_ok_weaker c.open.result
    (λ f. subst (λ e. Does (plan c.args.outlined.now) c.args.standing.now e c.open.new.self) (sym c.in-Open.is) (λ s at may. f (plan c.args.outlined.now) s item at may))
    (c.open.ensures.opened (region_in (entries_of c.args.outlined.now) c.index-items-item.result) c.region_of.ensures)

pub returns-in-Open-clause-fault : goal.returns-in-Open-clause-fault
returns-in-Open-clause-fault c capacity room =
    let item = found (plan c.args.outlined.now) (entries_of c.args.outlined.now) c.items.result.now c.items.ensures.shown c.in-Open.item _ ((subst (IsAble (plan c.args.outlined.now) c.args.standing.now) c.in-Open.is c.requires.able)).may
    c.index-items-item.result c.index-items-item.is c.requires.fine in
    IfErr-weaker c.open.result _ _
    (λ f why.
    subst (λ e. IsTakeFault capacity (plan c.args.outlined.now) c.args.standing.now e f) (sym c.in-Open.is)
    (open_fault capacity (plan c.args.outlined.now) c.args.standing.now c.in-Open.item c.index-items-item.result _ f item why))
    (c.open.ensures.fault (region_in (entries_of c.args.outlined.now) c.index-items-item.result) c.region_of.ensures)

pub returns-else-not-is_acting-clause-done : goal.returns-else-not-is_acting-clause-done
returns-else-not-is_acting-clause-done c =
    let on = on_device (plan c.args.outlined.now) (entries_of c.args.outlined.now) c.items-in-Step.result.now c.items-in-Step.ensures.shown c.in-Step.item _
    ((subst (IsAble (plan c.args.outlined.now) c.args.standing.now) c.in-Step.is c.requires.able)).may c.index-items-item-in-Step.result c.index-items-item-in-Step.is c.requires.fine in
    on_ok_weaker c.step.result
    (λ f. subst (λ e. Does (plan c.args.outlined.now) c.args.standing.now e c.step.new.self) (sym c.in-Step.is) (λ s at may. f (plan c.args.outlined.now) s on at may)) c.step.ensures.stepped

pub returns-else-not-is_acting-clause-fault : goal.returns-else-not-is_acting-clause-fault
returns-else-not-is_acting-clause-fault c capacity room =
    let on = on_device (plan c.args.outlined.now) (entries_of c.args.outlined.now) c.items-in-Step.result.now c.items-in-Step.ensures.shown c.in-Step.item _
    ((subst (IsAble (plan c.args.outlined.now) c.args.standing.now) c.in-Step.is c.requires.able)).may c.index-items-item-in-Step.result c.index-items-item-in-Step.is c.requires.fine in
    IfErr-weaker c.step.result _ _
    (λ f why.
    subst (λ e. IsTakeFault capacity (plan c.args.outlined.now) c.args.standing.now e f) (sym c.in-Step.is)
    (step_fault capacity (plan c.args.outlined.now) c.args.standing.now c.index-items-item-in-Step.result.device.number c.in-Step.item f on why))
    (c.step.ensures.fault capacity room)

pub returns-in-Ok-close-clause-done : goal.returns-in-Ok-close-clause-done
returns-in-Ok-close-clause-done c =
    let item = found (plan c.args.outlined.now) (entries_of c.args.outlined.now) c.items-in-Close.result.now c.items-in-Close.ensures.shown c.in-Close.item _
    ((subst (IsAble (plan c.args.outlined.now) c.args.standing.now) c.in-Close.is c.requires.able)).may c.index-items-item-in-Close.result c.index-items-item-in-Close.is c.requires.fine in
    subst (λ e. Does (plan c.args.outlined.now) c.args.standing.now e c.close.new.self) (sym c.in-Close.is)
    (λ s at may.
    closed (plan c.args.outlined.now) c.args.standing.now c.close.new.self s c.in-Close.item _ item.work item.is item.same.kind c.in-Ok-close.ensures.closed at may)

pub returns-in-Wait-clause-done : goal.returns-in-Wait-clause-done
returns-in-Wait-clause-done c =
    subst (λ e. Does (plan c.args.outlined.now) c.args.standing.now e c.pass.new.self) (sym c.in-Wait.is)
    (λ s at may. waited (plan c.args.outlined.now) c.args.standing.now c.pass.new.self s c.in-Wait.item c.pass.ensures.passed at may)

pub returns-in-End-clause-done : goal.returns-in-End-clause-done
returns-in-End-clause-done c =
    subst (λ e. Does (plan c.args.outlined.now) c.args.standing.now e c.end.new.self) (sym c.in-End.is)
    (λ s at may. ended (plan c.args.outlined.now) c.args.standing.now c.end.new.self s c.end.ensures.ended at may)
