use Rattle.std.proofs.Common.{sym, ap, ◌∙◌}
use Rattle.base.specs.declared.item.Event.TheVariants as event
use Rattle.fine_machine.specs.Machine.{enabled}
use Rattle.stepper.proofs.MayHappen.{by_action, neither, over, whole}
use Rattle.stepper.proofs.standing.Standing.is_enabled.Goals as goal

pub returns-then-self : goal.returns-then-self
returns-then-self c p s at = over p c.args.self.now s at c.if-self.true c.args.event

pub returns-in-Gen : goal.returns-in-Gen
returns-in-Gen c p s at =
    c.may_generate.ensures ∙ whole p c.args.self.now s at c.if-self.false (event.Gen c.in-Gen.item)
    ∙ ap (enabled p s) (sym c.in-Gen.is)

pub returns-in-Open : goal.returns-in-Open
returns-in-Open c p s at =
    c.may_open.ensures ∙ whole p c.args.self.now s at c.if-self.false (event.Open c.in-Open.item)
    ∙ ap (enabled p s) (sym c.in-Open.is)

pub returns-then-is_open : goal.returns-then-is_open
returns-then-is_open c p s at =
    (by_action p c.args.self.now s at c.if-self.false c.in-Step.item c.is_acting.result
    (sym c.is_open.ensures.close ∙ c.if-is_open.true) c.is_acting.ensures.acting c.is_acting.ensures.rest).0
    ∙ ap (enabled p s) (sym c.in-Step.is)

pub returns-else-is_open : goal.returns-else-is_open
returns-else-is_open c p s at =
    c.if-is_open.false
    ∙ (neither p c.args.self.now s at c.if-self.false c.in-Step.item (sym c.is_open.ensures.close ∙ c.if-is_open.false)).0
    ∙ ap (enabled p s) (sym c.in-Step.is)

pub returns-then-is_open-2 : goal.returns-then-is_open-2
returns-then-is_open-2 c p s at =
    (by_action p c.args.self.now s at c.if-self.false c.in-Close.item c.is_acting-then-is_open-2.result
    (sym c.is_open-in-Close.ensures.close ∙ c.if-is_open-2.true) c.is_acting-then-is_open-2.ensures.acting
    c.is_acting-then-is_open-2.ensures.rest).1
    ∙ ap (enabled p s) (sym c.in-Close.is)

pub returns-else-is_open-2 : goal.returns-else-is_open-2
returns-else-is_open-2 c p s at =
    c.if-is_open-2.false
    ∙ (neither p c.args.self.now s at c.if-self.false c.in-Close.item
    (sym c.is_open-in-Close.ensures.close ∙ c.if-is_open-2.false)).1
    ∙ ap (enabled p s) (sym c.in-Close.is)

pub returns-in-Wait : goal.returns-in-Wait
returns-in-Wait c p s at =
    c.may_pass.ensures ∙ whole p c.args.self.now s at c.if-self.false (event.Wait c.in-Wait.item)
    ∙ ap (enabled p s) (sym c.in-Wait.is)

pub returns-in-End : goal.returns-in-End
returns-in-End c p s at =
    c.may_end.ensures ∙ whole p c.args.self.now s at c.if-self.false event.End ∙ ap (enabled p s) (sym c.in-End.is)
