use Rattle.std.proofs.Common.{arith, ◌+◌, ◌*◌, ◌-◌, ◌^◌, min, ap, sym, ◌∙◌}
use Rattle.base.specs.Meaning.{turns_of}
use Rattle.base.specs.Footprint.{stmt_turns}
use Rattle.ranges.specs.Seen.{list_turns}
use Rattle.ranges.proofs.TurnCounts.{turns_Block, turns_Loop, turns_If, least_product, least_sum}
use Rattle.std.proofs.lemmas.Grind.{common_steps}
use Rattle.ranges.proofs.turns.+turns.Goals as goal

pub turns_in-returns-in-Loop : goal.turns_in-returns-in-Loop
turns_in-returns-in-Loop t c =
    c.saturating_mul.ensures
    ∙ (λ i. min (c.turns.ensures i * (c.saturating_add.ensures ∙ ap (λ n. min (n + 1) (2 ^ 64 - 1))
    (c.turns_in_all-in-Loop.ensures ∙ ap (λ xs. min (list_turns xs) (2 ^ 64 - 1)) c.deref-in-Loop.ensures.value))
    i) (2 ^ 64 - 1))
    ∙ least_product (turns_of c.in-Loop.bounds) (list_turns c.in-Loop.body.items) (2 ^ 64 - 1)
    ∙ ap (λ n. min n (2 ^ 64 - 1)) (sym (turns_Loop c.in-Loop.bounds c.in-Loop.body) ∙ ap (λ s. stmt_turns s)
    (sym c.in-Loop.is))

pub turns_in-returns-in-If : goal.turns_in-returns-in-If
turns_in-returns-in-If t c =
    c.saturating_add-in-If.ensures
    ∙ (λ i. min ((c.turns_in_all-in-If.ensures ∙ ap (λ xs. min (list_turns xs) (2 ^ 64 - 1))
    c.deref-in-If.ensures.value) i
    + (c.turns_in_all-in-If-2.ensures ∙ ap (λ xs. min (list_turns xs) (2 ^ 64 - 1)) c.deref-in-If-2.ensures.value) i)
    (2 ^ 64 - 1))
    ∙ least_sum (list_turns c.in-If.first.items) (list_turns c.in-If.second.items) (2 ^ 64 - 1)
    ∙ ap (λ n. min n (2 ^ 64 - 1)) (sym (turns_If c.in-If.field-0 c.in-If.first c.in-If.second) ∙ ap
    (λ s. stmt_turns s) (sym c.in-If.is))

pub turns_in-returns-in-Block : goal.turns_in-returns-in-Block
turns_in-returns-in-Block t c = grind (arith, turns_Block)

pub turns_in_all-loop-s-preserved : goal.turns_in_all-loop-s-preserved
turns_in_all-loop-s-preserved t c = grind (arith, common_steps)

pub turns_in_all-returns : goal.turns_in_all-returns
turns_in_all-returns t c = grind (arith, common_steps)
