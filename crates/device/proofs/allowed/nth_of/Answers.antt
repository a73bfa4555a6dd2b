use Rattle.std.proofs.Common.{◌≡◌, List, length, take, ap, sym, ◌∙◌, arith}
use Rattle.std.specs.Prelude.{filter, slice_get}
use Rattle.std.proofs.lemmas.List.{take_all}
use Rattle.std.proofs.lemmas.Option.{slice_get_past}
use Rattle.base.specs.declared.item.Event.{Event}
use Rattle.base.specs.declared.item.Event.TheVariants as event
use Rattle.taskgraph.specs.Board.{allows}
use Rattle.device.proofs.AtPlace.{passes_at}
use Rattle.device.proofs.allowed.nth_of.Goals as goal

pub returns-then-left-eq0 : goal.returns-then-left-eq0
returns-then-left-eq0 c =
    let p = allows c.args.graph.now in
    let xs = c.args.events.now in
    let i = c.events.event-index in
    let place : length (filter p (take i xs)) ≡ c.args.place = omega (arith, c.events.invariant, c.if-left-eq0.true) in
    sym (ap (slice_get (filter p xs)) (sym place)
    ∙ passes_at p xs i (event.Gen 0) c.events-test.true (sym c.is_allowed.ensures ∙ c.if-is_allowed.true))

pub returns : goal.returns
returns c =
    let p = allows c.args.graph.now in
    let xs = c.args.events.now in
    let all = ap (λ (l : List Event). length (filter p l)) (take_all c.events.event-index xs c.events-test.false) in
    sym (slice_get_past (filter p xs) c.args.place (omega (arith, all, c.events.invariant)))
