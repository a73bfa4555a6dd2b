use Rattle.std.proofs.Common.{◌-◌, [], ◌∷◌, ap, ◌∙◌, arith}
use Rattle.std.specs.Prelude.{filter, slice_get}
use Rattle.base.specs.declared.item.Event.TheVariants.{End, Gen, Wait}
use Rattle.taskgraph.specs.Board.{allows}
use Rattle.device.proofs.AtPlace.{at_closing, at_host, at_opening}
use Rattle.device.proofs.allowed.nth_allowed.Goals as goal

pub returns-then-place-closings : goal.returns-then-place-closings
returns-then-place-closings c =
    c.nth_closing.ensures
    ∙ at_closing c.args.graph.now c.args.place (omega (arith, c.if-place-closings.true, c.closing_count-closings.ensures))

pub returns-then-later-openings : goal.returns-then-later-openings
returns-then-later-openings c =
    let later = c.args.place - c.closing_count-closings.result in
    c.nth_opening.ensures
    ∙ at_opening c.args.graph.now later c.args.place
    (omega (arith, c.if-place-closings.false, c.closing_count-closings.ensures))
    (omega (arith, c.if-later-openings.true, c.opening_count-openings.ensures))

pub returns : goal.returns
returns c =
    let b = c.args.graph.now in
    let i = (c.args.place - c.closing_count-closings.result) - c.opening_count-openings.result in
    c.nth_of.ensures
    ∙ ap (λ k. slice_get (filter (allows b) (Gen k ∷ Wait k ∷ End ∷ [])) i) c.place-here.ensures
    ∙ at_host b i c.args.place
    (omega (arith, c.if-place-closings.false, c.if-later-openings.false, c.closing_count-closings.ensures, c.opening_count-openings.ensures))
