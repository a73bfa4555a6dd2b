use Rattle.std.proofs.Common.{◌≡◌, List, [], ◌∷◌, ◌++◌, ℕ, cond, length, ap, subst, ◌∙◌, arith}
use Rattle.std.proofs.lemmas.List.{length-append, length-map}
use Rattle.base.specs.declared.item.Event.TheVariants.{Open}
use Rattle.taskgraph.specs.Board.{Board, all_openings, allows, task_facts}
use Rattle.taskgraph.specs.Marks.{all_marked, is_marked}
use Rattle.taskgraph.specs.Waiting.{board_of, one_if}
use Rattle.taskgraph.proofs.AllOpenings.{openings}
use Rattle.taskgraph.proofs.Those.{one_long, one_small, small}
use Rattle.taskgraph.proofs.Graph.opening_count.Goals as goal

pub overflow_add-result : goal.overflow_add-result
overflow_add-result c =
    let g = c.self.inside in
    let few = small (is_marked g.ready_items) 0 (length g.ready_items) in
    omega (
      arith,
      c.len.ensures,
      few,
      c.self.invariant.ready.long,
      length-map g.tasks.items task_facts,
      g.tasks.ok.0,
      g.tasks.small,
      c.one_if.ensures,
      one_small c.may_open.result,
    )

pub returns : goal.returns
returns c =
    let g = c.self.inside in
    let rs = all_marked g.ready_items in
    let all = subst (λ (b : Board). all_openings b ≡ rs ++ cond (allows b (Open g.place)) (g.place ∷ []) []) c.self.view_is
    (openings (board_of g.tasks.items g.stages.items g.place) g.starts.items g.ends.items g.missing.items g.first g.open_items
    g.ready_items c.self.invariant) in
    let long = ap (λ (l : List ℕ). length l) all
    ∙ length-append rs (cond (allows c.args.self.now (Open g.place)) (g.place ∷ []) []) in
    let one = one_long (allows c.args.self.now (Open g.place)) g.place in
    let same : one_if c.may_open.result ≡ one_if (allows c.args.self.now (Open g.place)) = ap one_if c.may_open.ensures in
    omega (arith, long, one, same, c.len.ensures, c.one_if.ensures)
