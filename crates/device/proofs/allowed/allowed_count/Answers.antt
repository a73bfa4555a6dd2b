use Rattle.std.proofs.Common.{◌≡◌, ◌≤◌, List, [], ◌∷◌, length, ap, ◌∙◌, arith}
use Rattle.std.specs.Prelude.{filter}
use Rattle.base.specs.declared.item.Event.{Event}
use Rattle.base.specs.declared.item.Event.TheVariants.{End, Gen, Wait}
use Rattle.taskgraph.specs.Board.{allows}
use Rattle.device.proofs.AtPlace.{few_closings, few_openings, few_pass, host, whole_long}
use Rattle.device.proofs.allowed.allowed_count.Goals as goal

pub overflow_add-result : goal.overflow_add-result
overflow_add-result c =
    let b = c.args.graph.now in
    omega (arith, c.closing_count.ensures, c.opening_count.ensures, few_closings b, few_openings b, c.requires.few)

pub overflow_add-result-2 : goal.overflow_add-result-2
overflow_add-result-2 c =
    let b = c.args.graph.now in
    let here = c.place-here.result in
    let events : List Event = Gen here ∷ Wait here ∷ End ∷ [] in
    let few : length (filter (allows b) events) ≤ 3 = few_pass (allows b) events in
    let own : c.count_of.result ≡ length (filter (allows b) events) = c.count_of.ensures in
    omega (arith, c.closing_count.ensures, c.opening_count.ensures, few_closings b, few_openings b, c.requires.few, few, own)

pub returns : goal.returns
returns c =
    let b = c.args.graph.now in
    let own : c.count_of.result ≡ length (host b) =
    c.count_of.ensures ∙ ap (λ k. length (filter (allows b) (Gen k ∷ Wait k ∷ End ∷ []))) c.place-here.ensures in
    omega (arith, c.closing_count.ensures, c.opening_count.ensures, own, whole_long b)
