use Rattle.std.proofs.Common.{◌≡◌, inl, inr, true, [], ◌∷◌, ◌++◌, cond, ap, sym, ◌∙◌, arith}
use Rattle.std.specs.Prelude.{slice_get}
use Rattle.base.specs.declared.item.Event.TheVariants.{Open}
use Rattle.taskgraph.specs.Board.{Board, all_openings, allows}
use Rattle.taskgraph.specs.Marks.{all_marked}
use Rattle.taskgraph.specs.Waiting.{board_of}
use Rattle.taskgraph.proofs.AllOpenings.{openings}
use Rattle.taskgraph.proofs.Those.{get_else, get_last}
use Rattle.taskgraph.proofs.Graph.opening_at.Goals.{else-place-len-via-then-place-len+else-may_open, else-place-len-via-else-place-len}
use Rattle.taskgraph.proofs.Graph.opening_at.Goals as goal

pub returns-then-may_open : goal.returns-then-may_open
returns-then-may_open c =
    let g = c.self.inside in
    let b = board_of g.tasks.items g.stages.items g.place in
    let yes : allows b (Open g.place) ≡ true =
    ap (λ (x : Board). allows x (Open g.place)) c.self.view_is ∙ sym c.may_open.ensures ∙ c.if-may_open.true in
    let all = openings b g.starts.items g.ends.items g.missing.items g.first g.open_items g.ready_items c.self.invariant
    ∙ ap (λ x. all_marked g.ready_items ++ cond x (g.place ∷ []) []) yes in
    get_last (all_marked g.ready_items) (all_openings b) g.place c.args.place (omega (arith, c.if-place-len.true, c.len.ensures)) all
    ∙ ap (λ (x : Board). slice_get (all_openings x) c.args.place) c.self.view_is

pub returns : goal.returns
returns c =
    let g = c.self.inside in
    let b = board_of g.tasks.items g.stages.items g.place in
    let all = openings b g.starts.items g.ends.items g.missing.items g.first g.open_items g.ready_items c.self.invariant in
    c.nth.ensures
    ∙ get_else (all_marked g.ready_items) (all_openings b) (allows b (Open g.place)) g.place c.args.place all
    (elim c.else-place-len.branch [
      | else-place-len-via-then-place-len+else-may_open w ↦
          inl (ap (λ (x : Board). allows x (Open g.place)) c.self.view_is ∙ sym w.may_open.ensures ∙ w.if-may_open.false)
      | else-place-len-via-else-place-len w ↦ inr (λ e. w.if-place-len.false (omega (arith, e, c.len.ensures)))
    ])
    ∙ ap (λ (x : Board). slice_get (all_openings x) c.args.place) c.self.view_is
