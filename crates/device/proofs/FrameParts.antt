-- Frames that are the same by value.
use Rattle.std.proofs.Common.{◌≡◌, ℕ, List, map, Option, Some, None, refl, sym, ap, ◌∙◌}
use Rattle.std.specs.Prelude.{option_map, slice_get, slice_index}
use Rattle.std.proofs.lemmas.Option.{slice_get-map}
use mathlib.Core.Path.{fun_ext}
use Rattle.base.specs.declared.item.Cell.{Cell}
use Rattle.base.specs.declared.tree.Region.{Region}
use Rattle.base.specs.Memory.{View}
use Rattle.base.specs.Meaning.{run_region}
use Rattle.kernel.specs.declared.frames.Frame.{Frame}
use Rattle.kernel.specs.declared.frames.Row.{Row}
use Rattle.base.specs.Rows.{at_index}
use Rattle.kernel.specs.Rows.{cells_of}
use Rattle.shared_row.specs.Rows.{numbers_in}
use Rattle.device.specs.Standing.{Issue, done_on, frame_parts, row_parts}

-- the cells of rows by value
abbrev cells_in : List (ℕ × List ℕ) → View
cells_in rows c = elim (slice_get rows c.array.0) [ None ↦ None | Some r ↦ at_index r.0 r.1 c.index ]

cells_by_parts : (rows : List Row) → cells_of rows ≡ cells_in (map row_parts rows)
cells_by_parts rows =
    fun_ext (λ (c : Cell). go c (slice_get rows c.array.0) refl)
  where
    found : Cell → Option (ℕ × List ℕ) → Option ℕ
    found c o = elim o [ None ↦ None | Some r ↦ at_index r.0 r.1 c.index ]

    go : (c : Cell) (o : Option Row) → slice_get rows c.array.0 ≡ o → cells_of rows c ≡ cells_in (map row_parts rows) c
    go c None e =
        ap (λ (o : Option Row). elim o [ None ↦ None | Some r ↦ at_index r.first (numbers_in r.cells) c.index ]) e
        ∙ sym (ap (λ (o : Option (ℕ × List ℕ)). elim o [ None ↦ None | Some r ↦ at_index r.0 r.1 c.index ])
        (slice_get-map row_parts rows c.array.0 ∙ ap (option_map row_parts) e))
    go c (Some r) e =
        ap (λ (o : Option Row). elim o [ None ↦ None | Some r ↦ at_index r.first (numbers_in r.cells) c.index ]) e
        ∙ sym (ap (λ (o : Option (ℕ × List ℕ)). elim o [ None ↦ None | Some r ↦ at_index r.0 r.1 c.index ])
        (slice_get-map row_parts rows c.array.0 ∙ ap (option_map row_parts) e))

-- a region does the same on them
pub done_alike : (r : Region) (f g : Frame) → frame_parts f ≡ frame_parts g → done_on r f ≡ done_on r g
done_alike r f g e =
    ap (λ v. run_region r f.loops.now.values.items v (slice_index f.scalars) f.input.now) (cells_by_parts f.rows.items)
    ∙ ap (λ (p : Issue). run_region r p.loops (cells_in p.rows) (slice_index p.scalars) p.input) e
    ∙ sym (ap (λ v. run_region r g.loops.now.values.items v (slice_index g.scalars) g.input.now) (cells_by_parts g.rows.items))
