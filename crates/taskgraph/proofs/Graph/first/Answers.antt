use Rattle.std.proofs.Common.{◌<◌, ◌≤◌, ℕ, subst, length, arith}
use Rattle.taskgraph.specs.Board.{Board, IsSettled}
use Rattle.taskgraph.specs.Waiting.{board_of}
use Rattle.taskgraph.proofs.Settled.{settled_above, settled_below}
use Rattle.taskgraph.proofs.Graph.first.Goals as goal

pub returns-clause-below : goal.returns-clause-below
returns-clause-below c =
    let b = board_of c.self.inside.tasks.items c.self.inside.stages.items c.self.inside.place in
    subst (λ (x : Board). (i : ℕ) → i < c.self.inside.first → IsSettled x i) c.self.view_is
    (λ i lt. settled_below b c.self.inside.starts.items c.self.inside.ends.items c.self.inside.missing.items
    c.self.inside.first i c.self.invariant.graph lt)

pub returns-clause-above : goal.returns-clause-above
returns-clause-above c =
    let b = board_of c.self.inside.tasks.items c.self.inside.stages.items c.self.inside.place in
    subst (λ (x : Board). (i : ℕ) → x.place < i → IsSettled x i) c.self.view_is
    (λ i lt. settled_above b c.self.inside.starts.items c.self.inside.missing.items i c.self.invariant.graph.counted lt)

pub returns-clause-inside : goal.returns-clause-inside
returns-clause-inside c =
    subst (λ (x : Board). c.self.inside.first ≤ x.place) c.self.view_is c.self.invariant.graph.first.inside

pub returns-clause-within : goal.returns-clause-within
returns-clause-within c =
    let h = c.self.invariant.graph.first.inside in
    let k = c.self.invariant.graph.ordered.inside in
    subst (λ (x : Board). c.self.inside.first ≤ length x.tasks) c.self.view_is (omega (arith, h, k))
