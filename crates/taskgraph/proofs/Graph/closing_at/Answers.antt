use Rattle.std.proofs.Common.{ℕ, List, ap, ◌∙◌}
use Rattle.std.specs.Prelude.{slice_get}
use Rattle.taskgraph.specs.Board.{Board, all_closings}
use Rattle.taskgraph.specs.Waiting.{board_of}
use Rattle.taskgraph.proofs.Choosable.{closings}
use Rattle.taskgraph.proofs.Graph.closing_at.Goals as goal

pub returns : goal.returns
returns c =
    let g = c.self.inside in
    c.nth.ensures
    ∙ ap (λ (l : List ℕ). slice_get l c.args.place) (closings (board_of g.tasks.items g.stages.items g.place) g.starts.items
    g.ends.items g.missing.items g.first g.open_items g.ready_items c.self.invariant
    ∙ ap (λ (b : Board). all_closings b) c.self.view_is)
