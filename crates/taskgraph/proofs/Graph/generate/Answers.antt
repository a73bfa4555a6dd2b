use Rattle.std.proofs.Common.{◌≡◌, ◌+◌, ◌<◌, List, Bool, Some, true, length, sym, ap, subst, ◌∙◌, arith}
use Rattle.std.specs.Prelude.{slice_index}
use Rattle.std.specs.List.{slice_set}
use Rattle.std.proofs.lemmas.Grind.{common_steps, get_or_default_zero}
use Rattle.std.proofs.lemmas.List.{length-map}
use Rattle.std.proofs.lemmas.Option.{slice_get-get_or}
use Rattle.base.specs.declared.item.Event.TheVariants.{Gen}
use Rattle.taskgraph.specs.declared.Stage.TheVariants as stage
use Rattle.taskgraph.specs.declared.Task.{Task}
use Rattle.taskgraph.specs.Board.{Board, task_facts, allows}
use Rattle.taskgraph.specs.Waiting.{IsGraphWith, board_of, is_free}
use Rattle.taskgraph.proofs.ClosedGraph.{facts_at}
use Rattle.taskgraph.proofs.Before.{not_ready}
use Rattle.taskgraph.proofs.FreeGraph.{generated_with}
use Rattle.taskgraph.proofs.Kept.{may_generate}
use Rattle.taskgraph.proofs.Graph.generate.Goals as goal

pub index_mut-requires : goal.index_mut-requires
index_mut-requires c =
    let b = board_of c.self.inside.tasks.items c.self.inside.stages.items c.self.inside.place in
    let asked : allows b (Gen c.args.item) ≡ true = subst (λ (x : Board). allows x (Gen c.args.item) ≡ true) (sym c.self.view_is) c.requires in
    let m = may_generate b c.args.item asked in
    omega (arith, m.inside, c.self.invariant.graph.counted.stages)

pub index-requires : goal.index-requires
index-requires c =
    let g = c.self.inside in
    let i = c.args.item in
    let b = board_of g.tasks.items g.stages.items g.place in
    let asked : allows b (Gen i) ≡ true = subst (λ (x : Board). allows x (Gen i) ≡ true) (sym c.self.view_is) c.requires in
    let m = may_generate b i asked in
    omega (arith, m.inside, length-map g.tasks.items task_facts)

pub index-requires-2 : goal.index-requires-2
index-requires-2 c =
    let g = c.self.inside in
    let i = c.args.item in
    let b = board_of g.tasks.items g.stages.items g.place in
    let asked : allows b (Gen i) ≡ true = subst (λ (x : Board). allows x (Gen i) ≡ true) (sym c.self.view_is) c.requires in
    let m = may_generate b i asked in
    omega (arith, m.inside, g.missing.ok.0, c.self.invariant.graph.counted.same)

pub overflow_add-self : goal.overflow_add-self
overflow_add-self c =
    let b = board_of c.self.inside.tasks.items c.self.inside.stages.items c.self.inside.place in
    let asked : allows b (Gen c.args.item) ≡ true = subst (λ (x : Board). allows x (Gen c.args.item) ≡ true) (sym c.self.view_is) c.requires in
    let m = may_generate b c.args.item asked in
    omega (arith, m.here, m.inside, c.ranges.item.fits)

pub insert_if-requires-clause-inside : goal.insert_if-requires-clause-inside
insert_if-requires-clause-inside c =
    let g = c.self.inside in
    let i = c.args.item in
    let b = board_of g.tasks.items g.stages.items g.place in
    let asked : allows b (Gen i) ≡ true = subst (λ (x : Board). allows x (Gen i) ≡ true) (sym c.self.view_is) c.requires in
    let m = may_generate b i asked in
    omega (arith, m.inside, c.self.invariant.ready.long)

pub insert_if-requires-clause-fresh : goal.insert_if-requires-clause-fresh
insert_if-requires-clause-fresh c =
    let g = c.self.inside in
    let i = c.args.item in
    let b = board_of g.tasks.items g.stages.items g.place in
    let asked : allows b (Gen i) ≡ true = subst (λ (x : Board). allows x (Gen i) ≡ true) (sym c.self.view_is) c.requires in
    let m = may_generate b i asked in
    not_ready b g.starts.items g.ends.items g.missing.items g.first i g.open_items g.ready_items c.self.invariant m.here

pub invariant_of-self : goal.invariant_of-self
invariant_of-self c =
    let g = c.self.inside in
    let i = c.args.item in
    let b = board_of g.tasks.items g.stages.items g.place in
    let asked : allows b (Gen i) ≡ true = subst (λ (x : Board). allows x (Gen i) ≡ true) (sym c.self.view_is) c.requires in
    let m = may_generate b i asked in
    let t = c.index.result.now in
    let inside : i < length g.tasks.items = omega (arith, m.inside, length-map g.tasks.items task_facts) in
    let facts = facts_at g.tasks.items i t (slice_get-get_or g.tasks.items i t inside ∙ ap (λ (x : Task). Some x) (sym c.index.ensures)) in
    let count : c.index-2.result.now ≡ slice_index g.missing.items i =
    c.index-2.ensures ∙ get_or_default_zero g.missing.items i c.index-2.result.now (omega (arith, m.inside, c.self.invariant.graph.counted.same)) in
    let set : c.insert_if.new.self ≡ slice_set g.ready_items i (is_free (task_facts t) stage.Generated (slice_index g.missing.items i)) =
    c.insert_if.ensures ∙ ap (slice_set g.ready_items i)
    (c.is_freed-freed.ensures ∙ ap (is_free (task_facts t) stage.Generated) count) in
    subst (λ (l : List Bool). IsGraphWith (board_of g.tasks.items (slice_set g.stages.items i stage.Generated) (g.place + 1))
    g.starts.items g.ends.items g.missing.items g.first g.open_items l) (sym set)
    (generated_with b g.starts.items g.ends.items g.missing.items g.first i g.open_items g.ready_items (task_facts t)
    c.self.invariant asked facts)

pub returns : goal.returns
returns c = grind (arith, common_steps)
