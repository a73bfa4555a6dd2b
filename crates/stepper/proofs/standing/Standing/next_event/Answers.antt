use Rattle.std.proofs.Common.{sym, ◌∙◌, drop}
use Rattle.stepper.proofs.AfterEnd.{nothing_next}
use Rattle.stepper.proofs.Chosen.{counted_around, none_next}
use Rattle.stepper.proofs.standing.Standing.next_event.Goals as goal

pub returns-then-self : goal.returns-then-self
returns-then-self c p s at = nothing_next p c.args.self.now s at c.if-self.true (drop c.args.turn c.args.choices.now)

pub returns-then-count-eq0 : goal.returns-then-count-eq0
returns-then-count-eq0 c p s at =
    none_next p c.args.self.now s at c.if-self.false (drop c.args.turn c.args.choices.now)
    (sym c.allowed_count-count.ensures ∙ c.if-count-eq0.true)

pub returns : goal.returns
returns c p s at =
    counted_around p c.args.self.now s at c.if-self.false (drop c.args.turn c.args.choices.now)
    c.choice_at-choice.result c.allowed_count-count.result c.nth_event.result c.choice_at-choice.ensures
    c.allowed_count-count.ensures (c.nth_event.ensures p s at c.if-self.false)
