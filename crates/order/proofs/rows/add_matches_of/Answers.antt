use Rattle.std.proofs.Common.{◌≡◌, ◌+◌, ◌<◌, ◌≤◌, length, sym, ◌∙◌, ⊎_elim, arith}
use Rattle.std.proofs.lemmas.Bool.{cases_lt}
use Rattle.std.proofs.lemmas.List.{length-map}
use Rattle.order.specs.Bare.{bare, plan_of}
use Rattle.base.specs.Limits.{most_items}
use Rattle.order.proofs.Overwritten.{asked_one, behind_over}
use Rattle.order.proofs.rows.add_matches_of.Goals as goal

pub overflow_add-next : goal.overflow_add-next
overflow_add-next c = let few : length c.args.items.now ≤ most_items = c.requires.few in
    let inside : c.args.item < length c.args.items.now = c.requires.inside in omega (arith, few, inside)

pub returns-then-is_overwritten-clause-matches : goal.returns-then-is_overwritten-clause-matches
returns-then-is_overwritten-clause-matches c = λ j later m.
    let its = c.args.items.now in
    let next = c.loop-next.next in
    let new = c.add_match.new.row in
    let many : length (plan_of its).items ≡ length its = length-map its bare in
    let test : next < c.loop-next.row.place = c.loop-next-test.true in
    let place : c.loop-next.row.place ≤ length (plan_of its).items = c.loop-next.invariant.part.inside in
    ⊎_elim (λ (lt : j < next + 1). asked_one its c.args.item next c.args.depend.now c.loop-next.row new
    c.in_ok-has.ensures.kept
    c.loop-next.invariant.asked c.in_ok-has.ensures.asked j later lt m)
    (λ (le : next + 1 ≤ j). behind_over its c.args.item next j c.args.depend.now c.index-items-next.result
    c.deref.result.now new
    c.in_ok-has.ensures.part (c.in_ok-has.ensures.has c.if-has.true) (omega (arith, many, test, place)) c.deref.ensures
    (sym c.is_overwritten.ensures ∙ c.if-is_overwritten.true) (omega (arith, le)) m)
    (cases_lt j (next + 1))
