use Rattle.std.proofs.Common.{◌≡◌, ◌∙◌, ◌+◌, ℕ, Global, Vec, ap, arith}
use Rattle.std.specs.Prelude.{slice_range}
use Rattle.kernel.proofs.OwnCells.{behind_taken, kept_all, kept_own, whole_range}
use Rattle.kernel.proofs.run_row.RunRow.kept.Goals.{then-rest-len+in_ok-extend_from_slice, else-rest-len}
use Rattle.kernel.proofs.run_row.RunRow.kept.Goals as goal

pub returns : goal.returns
returns c =
    let row = c.self.inside in
    let own = c.if-rest-len.own in
    let whole : slice_range c.in_ok-row.row.value.items 0 (0 + c.len-count.result) ≡ own.items =
    ap (λ (v : Vec ℕ Global). slice_range v.items 0 (0 + c.len-count.result)) c.in_ok-row.ensures.ok
    ∙ whole_range own.items c.len-count.result (omega (arith, c.len-count.ensures, own.ok)) in
    elim c.if-rest-len.branch [
      | then-rest-len+in_ok-extend_from_slice w ↦
          kept_all row.first row.lent.now row.own.items _ row.stored c.args.self c.self.invariant c.self.view_is
          (whole ∙ ap (λ (v : Vec ℕ Global). v.items) w.own-is ∙ w.in_ok-extend_from_slice.ensures.items
          ∙ behind_taken row.lent.now row.own.items w.len-then-rest-len.result
          (omega (arith, w.len-then-rest-len.ensures, row.own.ok)))
      | else-rest-len w ↦
          kept_own row.first row.lent.now row.own.items _ row.stored c.args.self c.self.invariant c.self.view_is
          (whole ∙ ap (λ (v : Vec ℕ Global). v.items) w.own-is)
    ]
