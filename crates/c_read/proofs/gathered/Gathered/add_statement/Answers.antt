use Rattle.std.proofs.Common.{◌∷◌, ◌++◌, [], arith, ap, ◌∙◌}
use Rattle.c_read.specs.declared.gathered.Gathered.{Gathered}
use Rattle.c_read.proofs.Emptiness.{empty_items, not_empty}
use Rattle.c_read.proofs.Gathering.{adds_first, adds_statement}
use Rattle.c_read.proofs.gathered.Gathered.add_statement.Goals as goal
use Rattle.c_read.proofs.gathered.Gathered.add_statement.Goals.{then-is_empty, else-is_empty}

pub returns : goal.returns
returns c =
    let run = c.args.self.now.run in
    elim c.if-is_empty.branch [
      | then-is_empty w ↦
          adds_first c.args.place c.args.self.now _ c.args.stmt c.requires
          (empty_items run.items run.len c.is_empty.result c.is_empty.ensures (omega (arith, run.ok.0)) w.if-is_empty.true)
          (ap (λ (g : Gathered). g.parts.items) w.self-is) (ap (λ (g : Gathered). g.place) w.self-is)
          (c.in_ok-push.ensures.items ∙ ap (λ (g : Gathered). g.run.items ++ c.args.stmt ∷ []) w.self-is)
      | else-is_empty w ↦
          adds_statement c.args.place c.args.self.now _ c.args.stmt c.requires
          (not_empty run.items run.len c.is_empty.result c.is_empty.ensures (omega (arith, run.ok.0)) w.if-is_empty.false)
          (ap (λ (g : Gathered). g.parts.items) w.self-is) (ap (λ (g : Gathered). g.place) w.self-is)
          (c.in_ok-push.ensures.items ∙ ap (λ (g : Gathered). g.run.items ++ c.args.stmt ∷ []) w.self-is)
    ]
