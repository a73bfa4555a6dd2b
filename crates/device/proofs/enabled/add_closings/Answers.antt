use Rattle.std.proofs.Common.{◌≡◌, ◌≤◌, List, length, ap, ◌∙◌, arith}
use Rattle.std.proofs.lemmas.Bool.{cases_lt}
use Rattle.std.proofs.lemmas.List.{length-map}
use Rattle.base.specs.declared.item.Event.TheVariants as event
use Rattle.taskgraph.specs.Board.{Facts, item_facts}
use Rattle.device.proofs.Allowing.{more_allowed, none_above, none_below, started}
use Rattle.device.proofs.enabled.add_closings.Goals as goal

pub loop-i-init : goal.loop-i-init
loop-i-init c =
    none_below c.args.graph.now (λ x. event.Close x) c.first-i.result c.args.events.now.items
    (λ k lt. (c.first-i.ensures.below k lt).1)

pub loop-i-preserved : goal.loop-i-preserved
loop-i-preserved c =
    more_allowed c.args.graph.now (λ x. event.Close x) c.args.events.now.items c.loop-i.events.items _ c.loop-i.i
    c.in_ok-add_allowed.ensures c.loop-i.invariant

pub returns : goal.returns
returns c =
    let b = c.args.graph.now in
    let count = length c.args.items.now in
    let end = c.end_of-i-end.result in
    let i = c.loop-i.i in
    let many : length b.tasks ≡ count = ap (λ (fs : List Facts). length fs) c.requires.tasks ∙ length-map c.args.items.now item_facts in
    let first : c.first-i.result ≤ end =
    started b.place count end c.first-i.result (cases_lt b.place count) c.end_of-i-end.ensures.from c.end_of-i-end.ensures.all
    c.first-i.ensures.inside (omega (arith, many, c.first-i.ensures.within)) in
    let last : i ≤ end = c.loop-i.auto.i-end first in
    none_above b (λ x. event.Close x) i count c.args.events.now.items c.loop-i.events.items
    (omega (arith, last, c.end_of-i-end.ensures.inside))
    (λ k from lt. (c.first-i.ensures.above k (c.end_of-i-end.ensures.past k (omega (arith, from, c.loop-i-test.false)) lt)).1)
    c.loop-i.invariant
