use Rattle.std.proofs.Common.{◌≡◌, Some, drop, length, sym, ◌∙◌}
use Rattle.std.proofs.lemmas.Result.{err_from_is_err_and}
use Rattle.base.specs.Items.{plan}
use Rattle.stepper.specs.Answering.{next_by}
use Rattle.stepper.specs.Run.{state_of}
use Rattle.stepper.proofs.Plays.{begins, goes_on, may, over, stops}
use Rattle.stepper.proofs.Fines.{answers}
use Rattle.stepper.proofs.run.run_fine_shown.Goals.{In-Some}
use Rattle.stepper.proofs.run.run_fine_shown.Goals as goal

pub loop-event-init : goal.loop-event-init
loop-event-init c =
    begins c.args.outlined.now c.args.input.now c.args.choices.now c.args.turns.now c.args.capacity c.in-Ok.run' c.in-Ok.ensures.start

-- what is next by the next choice
next : (c : In-Some) → Some c.in-Some.event
    ≡ next_by (plan c.loop-event.run.program) (state_of c.loop-event.run)
    (drop (length c.loop-event.run.history) c.args.choices.now)
next c = sym c.in-Some.is ∙ c.next_event.ensures

pub take-requires-clause-enabled : goal.take-requires-clause-enabled
take-requires-clause-enabled c =
    let at = goal.at.take-requires-clause-enabled c in
    may c.args.outlined.now c.args.input.now c.args.choices.now c.args.turns.now c.args.capacity c.loop-event.run c.loop-event.invariant
    c.in-Some.event (next at.In-Some)

pub loop-event-preserved : goal.loop-event-preserved
loop-event-preserved c =
    let at = goal.at.loop-event-preserved c in
    goes_on c.args.outlined.now c.args.input.now c.args.choices.now c.args.turns.now c.args.capacity c.loop-event.run c.loop-event.invariant
    c.in-Some.event (next at.In-Some) c.take.new.self c.in_ok-take.ensures.done

pub returns-in_err-take-clause-fault : goal.returns-in_err-take-clause-fault
returns-in_err-take-clause-fault c =
    let at = goal.at.returns-in_err-take-clause-fault c in
    let f = c.in_err-take.field-0.0 in
    let p = err_from_is_err_and c.from_residual.result c.from_residual.ensures.1 in
    rw (p.1, p.2)
    (stops c.args.outlined.now c.args.input.now c.args.choices.now c.args.turns.now c.args.capacity c.loop-event.run c.loop-event.invariant
    c.in-Some.event (next at.In-Some) (c.has_come.ensures c.loop-event.invariant.going) c.requires.fine f c.in_err-take.ensures.fault)

pub returns-in-Ok-answer-clause-answer : goal.returns-in-Ok-answer-clause-answer
returns-in-Ok-answer-clause-answer c =
    let p = c.args.outlined.now in
    let r = c.loop-event.run in
    let play = c.loop-event.invariant in
    answers p c.args.input.now c.args.choices.now c.args.turns.now c.args.capacity r play (c.has_come-2.ensures play.going)
    (over p c.args.input.now c.args.choices.now c.args.turns.now c.args.capacity r play (sym c.in_default-next_event.is ∙ c.next_event.ensures))
    c.args.arrays.now c.in-Ok-answer.answer c.in-Ok-answer.ensures c.requires
