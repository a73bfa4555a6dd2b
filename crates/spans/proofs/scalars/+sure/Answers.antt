use Rattle.std.proofs.Common.{◌≡◌, Bool, true, sym, ap, ◌∙◌, arith}
use Rattle.std.specs.Prelude.{◌&&◌, nat_lt}
use Rattle.std.proofs.lemmas.Bool.Decides.{nat_tests}
use Rattle.spans.specs.Spans.{list_sure, sure_by}
use Rattle.spans.proofs.SureLists.{sure_If, sure_Loop}
use Rattle.spans.proofs.scalars.+sure.Goals as goal

pub is_sure-returns-then-bounds : goal.is_sure-returns-then-bounds
is_sure-returns-then-bounds t c =
    let x = c.args.x.0 in
    let b = c.in-Loop in
    let has : nat_lt b.bounds.first b.bounds.end ≡ true = grind (arith, nat_tests, c.if-bounds.true) in
    c.any_sure-then-bounds.ensures
    ∙ ap (list_sure x) c.deref-then-bounds.ensures.value
    ∙ sym (ap (sure_by x) b.is ∙ sure_Loop x b.bounds b.body ∙ ap (λ (q : Bool). q && list_sure x b.body.items) has)

pub is_sure-returns-then-any_sure : goal.is_sure-returns-then-any_sure
is_sure-returns-then-any_sure t c =
    let x = c.args.x.0 in
    let b = c.in-If in
    c.any_sure-then-any_sure.ensures
    ∙ ap (list_sure x) c.deref-then-any_sure.ensures.value
    ∙ sym (ap (sure_by x) b.is ∙ sure_If x b.field-0 b.first b.second
    ∙ ap (λ (q : Bool). q && list_sure x b.second.items)
    (sym (c.any_sure-in-If.ensures ∙ ap (list_sure x) c.deref-in-If.ensures.value) ∙ c.if-any_sure.true))

pub is_sure-returns-else-any_sure : goal.is_sure-returns-else-any_sure
is_sure-returns-else-any_sure t c =
    let x = c.args.x.0 in
    let b = c.in-If in
    c.if-any_sure.false
    ∙ sym (ap (sure_by x) b.is ∙ sure_If x b.field-0 b.first b.second
    ∙ ap (λ (q : Bool). q && list_sure x b.second.items)
    (sym (c.any_sure-in-If.ensures ∙ ap (list_sure x) c.deref-in-If.ensures.value) ∙ c.if-any_sure.false))
