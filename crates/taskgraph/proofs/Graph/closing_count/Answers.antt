use Rattle.std.proofs.Common.{ℕ, List, length, ap, ◌∙◌}
use Rattle.taskgraph.specs.Board.{Board, all_closings}
use Rattle.taskgraph.specs.Waiting.{board_of}
use Rattle.taskgraph.proofs.Choosable.{closings}
use Rattle.taskgraph.proofs.Graph.closing_count.Goals as goal

pub returns : goal.returns
returns c =
    let g = c.self.inside in
    c.len.ensures
    ∙ ap (λ (l : List ℕ). length l) (closings (board_of g.tasks.items g.stages.items g.place) g.starts.items g.ends.items
    g.missing.items g.first g.open_items g.ready_items c.self.invariant ∙ ap (λ (b : Board). all_closings b) c.self.view_is)
