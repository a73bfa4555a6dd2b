use Rattle.std.proofs.Common.{Bool, sym, ap, ◌∙◌}
use Rattle.std.specs.Prelude.{◌||◌}
use Rattle.spans.specs.Spans.{list_updates}
use Rattle.spans.specs.Spans as spec
use Rattle.spans.proofs.SureLists.{updates_If, updates_Loop}
use Rattle.spans.proofs.contained.+updates.Goals as goal

pub updates-returns-in-Loop : goal.updates-returns-in-Loop
updates-returns-in-Loop t c =
    c.any_update-in-Loop.ensures
    ∙ ap list_updates c.deref-in-Loop.ensures.value
    ∙ sym (ap spec.updates c.in-Loop.is ∙ updates_Loop c.in-Loop.field-0 c.in-Loop.body)

pub updates-returns-then-any_update : goal.updates-returns-then-any_update
updates-returns-then-any_update t c =
    let b = c.in-If in
    c.if-any_update.true
    ∙ sym (ap spec.updates b.is ∙ updates_If b.field-0 b.first b.second
    ∙ ap (λ (q : Bool). q || list_updates b.second.items)
    (sym (c.any_update-in-If.ensures ∙ ap list_updates c.deref-in-If.ensures.value) ∙ c.if-any_update.true))

pub updates-returns-else-any_update : goal.updates-returns-else-any_update
updates-returns-else-any_update t c =
    let b = c.in-If in
    c.any_update-else-any_update.ensures
    ∙ ap list_updates c.deref-else-any_update.ensures.value
    ∙ sym (ap spec.updates b.is ∙ updates_If b.field-0 b.first b.second
    ∙ ap (λ (q : Bool). q || list_updates b.second.items)
    (sym (c.any_update-in-If.ensures ∙ ap list_updates c.deref-in-If.ensures.value) ∙ c.if-any_update.false))
