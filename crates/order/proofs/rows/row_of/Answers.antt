use Rattle.std.proofs.Common.{◌≡◌, ◌<◌, length, ap, ◌∙◌, arith}
use Rattle.std.specs.Prelude.{not}
use Rattle.std.proofs.lemmas.List.{length-map}
use Rattle.base.specs.declared.item.Item.{Item}
use Rattle.order.specs.Bare.{bare, plan_of}
use Rattle.order.proofs.Befores.{one_read}
use Rattle.order.proofs.Parts.{row_in_line}
use Rattle.order.proofs.rows.row_of.Goals as goal

pub returns-else-items-item : goal.returns-else-items-item
returns-else-items-item c =
    let its = c.args.items.now in
    let p = plan_of its in
    let i = c.args.item in
    let many : length p.items ≡ length its = length-map its bare in
    let here : i < length its = c.requires.inside in
    row_in_line p i c.from_place.result (omega (arith, many, here))
    (one_read its i c.index-items-item.result (λ w. not w.deferred) here c.index-items-item.is
    ∙ ap (λ (it : Item). not it.deferred) c.index-items-item.is ∙ ap not c.if-items-item.false)
    c.from_place.ensures.place c.from_place.ensures.later
