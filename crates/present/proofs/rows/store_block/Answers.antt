use Rattle.std.proofs.Common.{◌≡◌, ◌+◌, ◌-◌, ◌==◌, true, false, Bool, None, length, refl, ap, sym, ◌∙◌, arith}
use Rattle.std.specs.Prelude.{option_map, slice_get, unwrap_or}
use Rattle.std.proofs.lemmas.Bool.{eq-eqb}
use Rattle.base.proofs.Sections.{in_parts}
use Rattle.shared_row.specs.Rows.{marks_of, numbers_in, numbers_of}
use Rattle.present.specs.Rows.{marked_at}
use Rattle.present.proofs.Adopting.{as_many}
use Rattle.present.proofs.rows.store_block.Goals as goal

pub returns-then-block-array : goal.returns-then-block-array
returns-then-block-array c =
    let b = c.args.block.now in
    let row = numbers_in c.args.cells.now in
    let marks = marks_of (length row) c.args.marks.now in
    record {
      section = refl;
      count = refl;
      same_length = as_many (λ k n. unwrap_or (marked_at c.args.first row marks (b.section.first + k)) n)
          (numbers_of b.values) (numbers_of c.store_cells.new.values) c.store_cells.ensures;
      numbers = λ cell i.
          (let p = in_parts cell b.section i in
          let above = p.above in
          let at : b.section.first + (cell.index - b.section.first) ≡ cell.index = omega (arith, above) in
          let array : (c.args.array.0 == cell.array.0) ≡ true =
          eq-eqb c.args.array.0 cell.array.0 (sym c.if-block-array.true ∙ sym p.array) in
          c.store_cells.ensures (cell.index - b.section.first)
          ∙ ap (λ o. option_map (λ n. unwrap_or o n) (slice_get (numbers_of b.values) (cell.index - b.section.first)))
          (ap (marked_at c.args.first row marks) at
          ∙ sym (ap (λ (t : Bool). elim t [ true ↦ marked_at c.args.first row marks cell.index | false ↦ None ])
          array)));
    }
