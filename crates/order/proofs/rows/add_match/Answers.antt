use Rattle.std.proofs.Common.{◌≡◌, ◌+◌, ◌<◌, ◌≤◌, length, sym, ◌∙◌, arith}
use Rattle.std.proofs.lemmas.List.{length-map}
use Rattle.base.specs.Limits.{most_items}
use Rattle.order.specs.Bare.{bare, plan_of}
use Rattle.order.specs.Rows.{IsRow}
use Rattle.order.proofs.Befores.{Leads, match_leads}
use Rattle.order.proofs.Overwritten.{match_of_read, match_one}
use Rattle.order.proofs.Parts.{part_added}
use Rattle.order.proofs.Steps.{row_bounds, row_read}
use Rattle.order.proofs.rows.add_match.Goals as goal

pub add-requires-clause-later : goal.add-requires-clause-later
add-requires-clause-later c =
    let its = c.args.items.now in
    let p = plan_of its in
    let next = c.args.next in
    let many : length p.items ≡ length its = length-map its bare in
    let few : length its ≤ most_items = c.requires.few in
    let rows : length c.args.rows.now ≡ length its = c.requires.many in
    let later : c.args.item < next = c.requires.later in
    let inside : next < length its = c.requires.inside in
    row_bounds p next c.index-rows-next.result (row_read p c.args.rows.now (c.args.item + 1) next c.index-rows-next.result
    c.requires.rows (omega (arith, later)) (omega (arith, rows, inside)) c.index-rows-next.is) (omega (arith, many, few))

pub returns-clause-part : goal.returns-clause-part
returns-clause-part c =
    let its = c.args.items.now in
    let p = plan_of its in
    let i = c.args.item in
    let next = c.args.next in
    let rows : length c.args.rows.now ≡ length its = c.requires.many in
    let later : i < next = c.requires.later in
    let inside : next < length its = c.requires.inside in
    let row : IsRow p next c.index-rows-next.result = row_read p c.args.rows.now (i + 1) next c.index-rows-next.result
    c.requires.rows (omega (arith, later)) (omega (arith, rows, inside)) c.index-rows-next.is in
    let leads : Leads p i next = match_leads p i next later (c.requires.depend next
    (match_of_read its c.args.depend.now next c.index-items-next.result c.deref.result.now inside c.deref.ensures
    ∙ match_one c.args.depend.now c.from_ref.result.now c.deref.result.now c.from_ref.ensures.value
    ∙ sym c.match_some.ensures ∙ c.if-not-match_some.false)) in
    part_added p i next c.args.row.now c.index-rows-next.result c.add.new.self leads row c.in_ok-add.ensures.added
    c.requires.part c.in_ok-add.ensures.members c.in_ok-add.ensures.place
