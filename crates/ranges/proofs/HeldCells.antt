-- Where a cell that is touched lies.
use Rattle.std.proofs.Common.{◌≡◌, ℕ, ◌-◌, ◌<◌, ◌≤◌, Bool, true, false, List, [], ◌∷◌, refl, sym, ap, ◌∙◌, subst, ⊎_elim}
use Rattle.std.specs.Prelude.{◌&&◌, ◌||◌, nat_le, slice_index, ◌==◌}
use Rattle.std.specs.List.{list_any}
use Rattle.std.proofs.lemmas.Bool.{and_parts, eqb-true, false≢true, leb-true, or_cases}
use Rattle.base.specs.declared.tree.Bounds.{Bounds}
use Rattle.base.specs.declared.tree.Stmt.{Stmt}
use Rattle.base.specs.declared.item.Cell.{Cell}
use Rattle.base.specs.Footprint.{Touch, has_cell}
use Rattle.ranges.specs.declared.stride.Stride.{Stride}
use Rattle.ranges.specs.declared.touched.Asked.{Asked}
use Rattle.ranges.specs.declared.touched.Touched.{Touched}
use Rattle.ranges.specs.declared.touched.Touched.TheVariants.{Nothing, Within}
use Rattle.ranges.specs.Seen.{list_touches}
use Rattle.ranges.specs.Spans.{AreBetween}
use Rattle.ranges.specs.Strides.{AllHeld, Apart, Holds, IsHeld, IsWithin, KeepsApart, ahead}

-- one of the touches has it
record Has (q : Asked) (h : Touched) (s : ℕ) (c : Cell) : Type 0 where
  touch : Touch
  held : IsHeld q h s touch
  array : touch.array.0 ≡ c.array.0
  low : touch.cells.lo ≤ c.index
  high : c.index ≤ touch.cells.hi

one_has : (q : Asked) (h : Touched) (s : ℕ) (ts : List Touch) (c : Cell) → AllHeld q h s ts → list_any (has_cell c) ts ≡ true → Has q h s c
one_has q h s [] c a e = absurd (false≢true e)
one_has q h s (t ∷ ts) c a e =
    ⊎_elim (λ f. let p = and_parts (t.array.0 == c.array.0) (nat_le t.cells.lo c.index && nat_le c.index t.cells.hi) f in
    let r = and_parts (nat_le t.cells.lo c.index) (nat_le c.index t.cells.hi) p.1 in
    record { touch = t; held = a.0; array = eqb-true t.array.0 c.array.0 p.0; low = leb-true t.cells.lo c.index r.0; high = leb-true c.index t.cells.hi r.1 })
    (λ f. one_has q h s ts c a.1 f) (or_cases (has_cell c t) (list_any (has_cell c) ts) e)

module _ (q : Asked) (lows highs : List ℕ) (b : Bounds) (body : List Stmt) (first : slice_index lows q.level ≡ b.first) where
  pub nothing_apart : (h : Touched) → h ≡ Nothing → Holds q lows highs h (list_touches body) → Apart q.array.0 q.level b body lows highs
  nothing_apart h is k xs ys c between_x between_y turn_x turn_y same touch_x touch_y =
      let x = one_has q Nothing (ahead lows q.level xs) (list_touches body xs true) c
      (subst (λ (h : Touched). AllHeld q h (ahead lows q.level xs) (list_touches body xs true)) is (k xs true between_x)) touch_x in
      absurd (x.held (x.array ∙ same))

  pub within_apart : (h : Touched) (w : Stride) → h ≡ Within w → KeepsApart q.modulus w b → Holds q lows highs h (list_touches body) →
      Apart q.array.0 q.level b body lows highs
  within_apart h w is keeps k xs ys c between_x between_y turn_x turn_y same touch_x touch_y =
      let held : (zs : List ℕ) → AreBetween lows highs zs → AllHeld q (Within w) (ahead lows q.level zs) (list_touches body zs true) =
      λ zs between. subst (λ (h : Touched). AllHeld q h (ahead lows q.level zs) (list_touches body zs true)) is (k zs true between) in
      let x = one_has q (Within w) (ahead lows q.level xs) (list_touches body xs true) c (held xs between_x) touch_x in
      let y = one_has q (Within w) (ahead lows q.level ys) (list_touches body ys true) c (held ys between_y) touch_y in
      keeps (slice_index xs q.level) (slice_index ys q.level) c.index x.touch.cells y.touch.cells turn_x turn_y
      (subst (λ f. IsWithin q.modulus w (slice_index xs q.level - f) x.touch.cells) first (x.held (x.array ∙ same)))
      (subst (λ f. IsWithin q.modulus w (slice_index ys q.level - f) y.touch.cells) first (y.held (y.array ∙ same)))
      x.low x.high y.low y.high
