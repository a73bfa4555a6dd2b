use Rattle.std.proofs.Common.{◌≡◌, Some, drop, length, sym, ◌∙◌, subst}
use Rattle.std.proofs.lemmas.Option.{IfSome_then}
use Rattle.base.specs.Items.{plan}
use Rattle.stepper.specs.Answering.{next_by}
use Rattle.stepper.specs.Run.{state_of}
use Rattle.stepper.specs.Running.{IsEventFault}
use Rattle.stepper.proofs.Plays.{begins, goes_on, may, stops_at}
use Rattle.stepper.proofs.stops.stop_of.Goals.{In-Some}
use Rattle.stepper.proofs.stops.stop_of.Goals as goal

pub loop-event-init : goal.loop-event-init
loop-event-init c =
    begins c.args.outlined.now c.args.input.now c.args.choices.now c.args.turns.now c.args.capacity c.in-Ok.run' c.in-Ok.ensures.start

-- what is next by the next choice
next : (c : In-Some) → Some c.in-Some.event
    ≡ next_by (plan c.loop-event.run.program) (state_of c.loop-event.run)
    (drop (length c.loop-event.run.history) c.args.choices.now)
next c = sym c.in-Some.is ∙ c.next_event.ensures

pub coming-action-requires-clause-enabled : goal.coming-action-requires-clause-enabled
coming-action-requires-clause-enabled c =
    let at = goal.at.coming-action-requires-clause-enabled c in
    may c.args.outlined.now c.args.input.now c.args.choices.now c.args.turns.now c.args.capacity c.loop-event.run c.loop-event.invariant
    c.in-Some.event (next at.In-Some)

pub take-requires-clause-enabled : goal.take-requires-clause-enabled
take-requires-clause-enabled c =
    let at = goal.at.take-requires-clause-enabled c in
    may c.args.outlined.now c.args.input.now c.args.choices.now c.args.turns.now c.args.capacity c.loop-event.run c.loop-event.invariant
    c.in-Some.event (next at.In-Some)

pub loop-event-preserved : goal.loop-event-preserved
loop-event-preserved c =
    let at = goal.at.loop-event-preserved c in
    goes_on c.args.outlined.now c.args.input.now c.args.choices.now c.args.turns.now c.args.capacity c.loop-event.run c.loop-event.invariant
    c.in-Some.event (next at.In-Some) c.take.new.self c.in-Ok-take.ensures.done

pub returns-in-Err-Absent : goal.returns-in-Err-Absent
returns-in-Err-Absent c =
    let at = goal.at.returns-in-Err-Absent c in
    let r = c.loop-event.run in
    let play = c.loop-event.invariant in
    IfSome_then c.coming-action.result c.coming-action.ensures
    (λ stop comes.
    stops_at c.args.outlined.now c.args.input.now c.args.choices.now c.args.turns.now c.args.capacity r play c.in-Some.event
    (next at.In-Some) (c.has_come.ensures play.going) c.requires
    (subst (IsEventFault r c.in-Some.event) c.in-Err-Absent.field-0-is c.in-Err-Absent.ensures.fault) stop comes)
