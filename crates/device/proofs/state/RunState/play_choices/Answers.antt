use Rattle.std.proofs.Common.{sym, ◌∙◌, subst, arith}
use Rattle.device.specs.Choosing.{IsStopped}
use Rattle.device.specs.Run.{Run}
use Rattle.device.proofs.Answers.{shows_erased}
use Rattle.device.proofs.InOrder.{played_in_order}
use Rattle.device.proofs.Choices.{comes_from, ends_at_most, ends_here, may_happen, one_more_choice, stops, why}
use Rattle.device.proofs.state.RunState.play_choices.Goals as goal

pub loop-turn-init : goal.loop-turn-init
loop-turn-init c = comes_from c.args.choices.now c.args.self.now

pub loop-turn-preserved : goal.loop-turn-preserved
loop-turn-preserved c =
    one_more_choice c.loop-turn.turn c.args.choices.now c.args.self.now c.loop-turn.self c.take.new.self c.in-Some.event
    c.loop-turn.invariant (sym c.next_event.ensures ∙ c.in-Some.is) c.in-Ok.ensures.taken

pub returns-in_default-clause-played : goal.returns-in_default-clause-played
returns-in_default-clause-played c =
    let most = c.most_events-most.ensures in
    let below = c.loop-turn-test.true in
    ends_here c.loop-turn.turn c.args.choices.now c.args.self.now c.loop-turn.self c.loop-turn.invariant
    c.is_reached-in-loop-turn.ensures.reached (omega arith) (sym c.next_event.ensures ∙ c.in_default.is)

pub take-requires : goal.take-requires
take-requires c =
    may_happen c.loop-turn.turn c.args.choices.now c.args.self.now c.loop-turn.self c.loop-turn.invariant c.in-Some.event
    (sym c.next_event.ensures ∙ c.in-Some.is)

pub returns-in-Err-clause-stopped : goal.returns-in-Err-clause-stopped
returns-in-Err-clause-stopped c =
    let next = sym c.next_event.ensures ∙ c.in-Some.is in
    subst (λ (r : Run). IsStopped c.args.choices.now c.args.self.now r c.in-Err.fault) (sym c.in-Err.ensures.unchanged)
    (stops c.loop-turn.turn c.args.choices.now c.args.self.now c.loop-turn.self c.loop-turn.invariant c.in-Err.fault
    (why c.loop-turn.turn c.args.choices.now c.args.self.now c.loop-turn.self c.loop-turn.invariant c.in-Some.event next
    c.in-Err.fault c.in-Err.ensures.fault))

pub returns-clause-played : goal.returns-clause-played
returns-clause-played c =
    let most = c.most_events-most.ensures in
    let past = c.loop-turn-test.false in
    let x = c.loop-turn.auto in
    ends_at_most c.loop-turn.turn c.args.choices.now c.args.self.now c.loop-turn.self c.loop-turn.invariant
    c.is_reached-2.ensures.reached (omega arith) (omega arith)

pub returns-in_default-clause-shows : goal.returns-in_default-clause-shows
returns-in_default-clause-shows c =
    let most = c.most_events-most.ensures in
    let below = c.loop-turn-test.true in
    let played = ends_here c.loop-turn.turn c.args.choices.now c.args.self.now c.loop-turn.self c.loop-turn.invariant
    c.is_reached-in-loop-turn.ensures.reached (omega arith) (sym c.next_event.ensures ∙ c.in_default.is) in
    shows_erased c.loop-turn.self c.is_reached-in-loop-turn.ensures.reached played.ended

pub returns-clause-shows : goal.returns-clause-shows
returns-clause-shows c =
    let most = c.most_events-most.ensures in
    let past = c.loop-turn-test.false in
    let x = c.loop-turn.auto in
    let played = ends_at_most c.loop-turn.turn c.args.choices.now c.args.self.now c.loop-turn.self c.loop-turn.invariant
    c.is_reached-2.ensures.reached (omega arith) (omega arith) in
    shows_erased c.loop-turn.self c.is_reached-2.ensures.reached played.ended

pub returns-in_default-clause-in_order : goal.returns-in_default-clause-in_order
returns-in_default-clause-in_order c none begun =
    let most = c.most_events-most.ensures in
    let below = c.loop-turn-test.true in
    played_in_order c.args.choices.now c.args.self.now c.loop-turn.self c.is_reached.ensures.reached
    (ends_here c.loop-turn.turn c.args.choices.now c.args.self.now c.loop-turn.self c.loop-turn.invariant
    c.is_reached-in-loop-turn.ensures.reached (omega arith) (sym c.next_event.ensures ∙ c.in_default.is)) none begun

pub returns-clause-in_order : goal.returns-clause-in_order
returns-clause-in_order c none begun =
    let most = c.most_events-most.ensures in
    let past = c.loop-turn-test.false in
    let x = c.loop-turn.auto in
    played_in_order c.args.choices.now c.args.self.now c.loop-turn.self c.is_reached.ensures.reached
    (ends_at_most c.loop-turn.turn c.args.choices.now c.args.self.now c.loop-turn.self c.loop-turn.invariant
    c.is_reached-2.ensures.reached (omega arith) (omega arith)) none begun
