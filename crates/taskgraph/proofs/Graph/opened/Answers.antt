use Rattle.std.proofs.Common.{◌≡◌, ◌<◌, List, Bool, Some, length, false, true, sym, ap, subst, ◌∙◌, arith}
use Rattle.std.specs.List.{slice_set}
use Rattle.std.proofs.lemmas.Option.{slice_get-get_or}
use Rattle.std.proofs.lemmas.List.{length-map}
use Rattle.base.specs.declared.item.Event.TheVariants.{Open}
use Rattle.taskgraph.specs.declared.Stage.TheVariants as stage
use Rattle.taskgraph.specs.declared.Task.{Task}
use Rattle.taskgraph.specs.Board.{Board, task_facts, allows}
use Rattle.taskgraph.proofs.ClosedGraph.{facts_at}
use Rattle.taskgraph.proofs.Before.{not_open, ready_where}
use Rattle.taskgraph.proofs.FreeGraph.{opened_with}
use Rattle.taskgraph.proofs.Kept.{may_open}
use Rattle.taskgraph.specs.Waiting.{IsGraphWith, board_of}
use Rattle.std.proofs.lemmas.Grind.{common_steps}
use Rattle.taskgraph.proofs.Graph.opened.Goals as goal

pub index_mut-requires : goal.index_mut-requires
index_mut-requires c =
    let b = board_of c.self.inside.tasks.items c.self.inside.stages.items c.self.inside.place in
    let asked : allows b (Open c.args.item) ≡ true = subst (λ (x : Board). allows x (Open c.args.item) ≡ true) (sym c.self.view_is) c.requires in
    let m = may_open b c.args.item asked in
    omega (arith, m.inside, c.self.invariant.graph.counted.stages)

pub index-requires : goal.index-requires
index-requires c =
    let ts = c.self.inside.tasks.items in
    let b = board_of ts c.self.inside.stages.items c.self.inside.place in
    let asked : allows b (Open c.args.item) ≡ true = subst (λ (x : Board). allows x (Open c.args.item) ≡ true) (sym c.self.view_is) c.requires in
    let m = may_open b c.args.item asked in
    omega (arith, m.inside, length-map ts task_facts)

pub insert-requires-clause-inside : goal.insert-requires-clause-inside
insert-requires-clause-inside c =
    let g = c.self.inside in
    let i = c.args.item in
    let b = board_of g.tasks.items g.stages.items g.place in
    let asked : allows b (Open i) ≡ true = subst (λ (x : Board). allows x (Open i) ≡ true) (sym c.self.view_is) c.requires in
    let m = may_open b i asked in
    omega (arith, m.inside, c.self.invariant.opened.long)

pub insert-requires-clause-fresh : goal.insert-requires-clause-fresh
insert-requires-clause-fresh c =
    let g = c.self.inside in
    let i = c.args.item in
    let b = board_of g.tasks.items g.stages.items g.place in
    let asked : allows b (Open i) ≡ true = subst (λ (x : Board). allows x (Open i) ≡ true) (sym c.self.view_is) c.requires in
    not_open b g.starts.items g.ends.items g.missing.items g.first i g.open_items g.ready_items c.self.invariant asked

pub remove_if-requires : goal.remove_if-requires
remove_if-requires c =
    let g = c.self.inside in
    let i = c.args.item in
    let b = board_of g.tasks.items g.stages.items g.place in
    let asked : allows b (Open i) ≡ true = subst (λ (x : Board). allows x (Open i) ≡ true) (sym c.self.view_is) c.requires in
    let m = may_open b i asked in
    let t = c.index.result.now in
    let inside : i < length g.tasks.items = omega (arith, m.inside, length-map g.tasks.items task_facts) in
    let facts = facts_at g.tasks.items i t (slice_get-get_or g.tasks.items i t inside ∙ ap (λ (x : Task). Some x) (sym c.index.ensures)) in
    ready_where b g.starts.items g.ends.items g.missing.items g.first i g.open_items g.ready_items (task_facts t)
    c.self.invariant asked facts

pub invariant_of-self : goal.invariant_of-self
invariant_of-self c =
    let g = c.self.inside in
    let i = c.args.item in
    let b = board_of g.tasks.items g.stages.items g.place in
    let asked : allows b (Open i) ≡ true = subst (λ (x : Board). allows x (Open i) ≡ true) (sym c.self.view_is) c.requires in
    let now = board_of g.tasks.items (slice_set g.stages.items i stage.Open) g.place in
    subst (λ (l : List Bool). IsGraphWith now g.starts.items g.ends.items g.missing.items g.first c.insert.new.self l)
    (sym c.remove_if.ensures)
    (subst (λ (l : List Bool). IsGraphWith now g.starts.items g.ends.items g.missing.items g.first l
    (slice_set g.ready_items i false)) (sym c.insert.ensures)
    (opened_with b g.starts.items g.ends.items g.missing.items g.first i g.open_items g.ready_items c.self.invariant asked))

pub returns : goal.returns
returns c = grind (arith, common_steps)
