use Rattle.std.proofs.Common.{ap, sym, ◌∙◌, Some}
use Rattle.stepper.proofs.Chosen.{action_at, closing_at, none_at, other_at}
use Rattle.stepper.proofs.standing.Standing.nth_event.Goals as goal

pub returns-in_err-event : goal.returns-in_err-event
returns-in_err-event c p s at going =
    c.from_residual.ensures
    ∙ none_at p c.args.self.now s at going c.args.place (sym c.nth_allowed.ensures ∙ c.in_err-event.was)

pub returns-then-is_acting : goal.returns-then-is_acting
returns-then-is_acting c p s at going =
    action_at p c.args.self.now s at going c.args.place c.in-Close.item
    (sym c.nth_allowed.ensures ∙ c.in_ok-event.was ∙ ap Some c.in-Close.is) (c.is_acting.ensures.acting c.if-is_acting.true)

pub returns-else-is_acting : goal.returns-else-is_acting
returns-else-is_acting c p s at going =
    closing_at p c.args.self.now s at going c.args.place c.in-Close.item
    (sym c.nth_allowed.ensures ∙ c.in_ok-event.was ∙ ap Some c.in-Close.is) (c.is_acting.ensures.rest c.if-is_acting.false)

pub returns-in_default : goal.returns-in_default
returns-in_default c p s at going =
    other_at p c.args.self.now s at going c.args.place c.in_ok-event.event
    (sym c.nth_allowed.ensures ∙ c.in_ok-event.was) c.in_default.not-Close
