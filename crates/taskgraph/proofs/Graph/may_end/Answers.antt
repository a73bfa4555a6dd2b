use Rattle.std.proofs.Common.{◌≡◌, length, sym, ap, subst, ◌∙◌}
use Rattle.std.specs.Prelude.{◌==◌}
use Rattle.std.proofs.lemmas.List.{length-map}
use Rattle.base.specs.declared.item.Event.TheVariants.{End}
use Rattle.taskgraph.specs.Board.{Board, allows, task_facts}
use Rattle.taskgraph.specs.Waiting.{board_of}
use Rattle.taskgraph.proofs.Settled.{may_end}
use Rattle.taskgraph.proofs.Graph.may_end.Goals as goal

pub returns : goal.returns
returns c =
    let b = board_of c.self.inside.tasks.items c.self.inside.stages.items c.self.inside.place in
    let h = may_end b c.self.inside.starts.items c.self.inside.ends.items c.self.inside.missing.items
    c.self.inside.first c.self.invariant.graph in
    ap (λ n. c.self.inside.first == n) (c.len.ensures ∙ c.self.inside.tasks.ok.0 ∙ sym (length-map c.self.inside.tasks.items task_facts))
    ∙ subst (λ (x : Board). (c.self.inside.first == length b.tasks) ≡ allows x End) c.self.view_is h
