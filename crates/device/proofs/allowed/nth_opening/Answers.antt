use Rattle.std.proofs.Common.{ap, sym, ◌∙◌, length, arith}
use Rattle.std.specs.Prelude.{option_map}
use Rattle.base.specs.declared.item.Event.TheVariants.{Open}
use Rattle.taskgraph.specs.Board.{allows}
use Rattle.device.proofs.AtPlace.{item_inside, listed_at}
use Rattle.device.proofs.allowed.nth_opening.Goals as goal

pub returns-in_err-item : goal.returns-in_err-item
returns-in_err-item c =
    c.from_residual.ensures
    ∙ ap (option_map Open) (sym c.in_err-item.was)
    ∙ listed_at (allows c.args.graph.now) Open (length c.args.graph.now.tasks) c.args.place c.opening_at.result c.opening_at.ensures

pub overflow_cast-result : goal.overflow_cast-result
overflow_cast-result c =
    let inside = item_inside (λ i. allows c.args.graph.now (Open i)) 0 (length c.args.graph.now.tasks) c.args.place c.in_ok-item.item
    (sym c.opening_at.ensures ∙ c.in_ok-item.was) in
    omega (arith, inside, c.requires)

pub returns : goal.returns
returns c =
    ap (option_map Open) (sym c.in_ok-item.was)
    ∙ listed_at (allows c.args.graph.now) Open (length c.args.graph.now.tasks) c.args.place c.opening_at.result c.opening_at.ensures
