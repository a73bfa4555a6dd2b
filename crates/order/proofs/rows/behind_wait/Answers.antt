use Rattle.std.proofs.Common.{◌≡◌, true, ◌+◌, ◌<◌, ◌≤◌, length, sym, ◌∙◌, subst, arith}
use Rattle.std.proofs.lemmas.List.{length-map}
use Rattle.base.specs.Limits.{most_items}
use Rattle.order.specs.Bare.{bare, plan_of}
use Rattle.order.specs.Rows.{HasWaits, IsPart, IsRow, waits_at}
use Rattle.order.proofs.Befores.{Leads, wait_leads}
use Rattle.order.proofs.Parts.{nothing, no_waits, part_added, waits_added}
use Rattle.order.proofs.Steps.{row_bounds, row_read}
use Rattle.order.proofs.rows.behind_wait.Goals.{then-wait-items+in_ok-add, else-wait-items}
use Rattle.order.proofs.rows.behind_wait.Goals as goal

pub add-requires-clause-later : goal.add-requires-clause-later
add-requires-clause-later c =
    let its = c.args.items.now in
    let p = plan_of its in
    let many : length p.items ≡ length its = length-map its bare in
    let few : length its ≤ most_items = c.requires.few in
    let rows : length c.args.rows.now ≡ length its = c.requires.many in
    let test : c.args.wait < length its = c.if-wait-items.true in
    let inside : c.args.wait < length p.items = omega (arith, many, test) in
    let row : IsRow p c.args.wait c.index-rows-wait.result = row_read p c.args.rows.now (c.args.item + 1) c.args.wait
    c.index-rows-wait.result c.requires.rows (c.requires.wait.waits inside).0 (omega (arith, rows, test)) c.index-rows-wait.is in
    row_bounds p c.args.wait c.index-rows-wait.result row (omega (arith, many, few))

pub returns-clause-part : goal.returns-clause-part
returns-clause-part c =
    let its = c.args.items.now in
    let p = plan_of its in
    let i = c.args.item in
    let m = c.args.wait in
    let old = c.from_place-row.result in
    let many : length p.items ≡ length its = length-map its bare in
    let none : IsPart p i old = nothing p i old (c.from_place-row.ensures.place ∙ sym many) c.from_place-row.ensures.later in
    elim c.if-wait-items.branch [
      | then-wait-items+in_ok-add w ↦
          let rows : length c.args.rows.now ≡ length its = c.requires.many in
          let test : m < length its = w.if-wait-items.true in
          let inside : m < length p.items = omega (arith, many, test) in
          let waits : (i + 1 ≤ m) × (waits_at p m ≡ true) = c.requires.wait.waits inside in
          let later : i + 1 ≤ m = waits.0 in
          let row : IsRow p m w.index-rows-wait.result = row_read p c.args.rows.now (i + 1) m
          w.index-rows-wait.result c.requires.rows later (omega (arith, rows, test)) w.index-rows-wait.is in
          let leads : Leads p i m = wait_leads p i m (omega (arith, later)) (omega (arith, later, inside)) waits.1 in
          subst (IsPart p i) (sym w.row-is) (part_added p i m old w.index-rows-wait.result w.add.new.self leads row
          w.in_ok-add.ensures.added none w.in_ok-add.ensures.members w.in_ok-add.ensures.place)
      | else-wait-items w ↦ subst (IsPart p i) (sym w.row-is) none
    ]

pub returns-clause-waits : goal.returns-clause-waits
returns-clause-waits c =
    let its = c.args.items.now in
    let p = plan_of its in
    let i = c.args.item in
    let m = c.args.wait in
    let old = c.from_place-row.result in
    let many : length p.items ≡ length its = length-map its bare in
    elim c.if-wait-items.branch [
      | then-wait-items+in_ok-add w ↦
          let rows : length c.args.rows.now ≡ length its = c.requires.many in
          let test : m < length its = w.if-wait-items.true in
          let inside : m < length p.items = omega (arith, many, test) in
          let waits : (i + 1 ≤ m) × (waits_at p m ≡ true) = c.requires.wait.waits inside in
          let later : i + 1 ≤ m = waits.0 in
          let row : IsRow p m w.index-rows-wait.result = row_read p c.args.rows.now (i + 1) m
          w.index-rows-wait.result c.requires.rows later (omega (arith, rows, test)) w.index-rows-wait.is in
          let leads : Leads p i m = wait_leads p i m (omega (arith, later)) (omega (arith, later, inside)) waits.1 in
          subst (HasWaits p i) (sym w.row-is) (waits_added p i m old w.index-rows-wait.result w.add.new.self leads row
          w.in_ok-add.ensures.added c.requires.wait inside)
      | else-wait-items w ↦
          let test : length its ≤ m = w.if-wait-items.false in
          subst (HasWaits p i) (sym w.row-is) (no_waits p i old m c.requires.wait (omega (arith, many, test)))
    ]
