-- There are no more runs than accesses, where an access begins at the first cell of each run.
use Rattle.std.proofs.Common.{◌≡◌, ℕ, zero, suc, ◌<◌, ◌≤◌, Bool, true, false, List, [], ◌∷◌, length, sym, ◌∙◌, ap, ap₂, refl, subst, ⊎_elim, inr, arith}
use Rattle.std.specs.Prelude.{◌||◌, if◌then◌else◌}
use Rattle.std.specs.List.{AllByRecursion, list_any}
use Rattle.std.proofs.Math.Bool.{or-true}
use Rattle.std.proofs.lemmas.Bool.{false≢true}
use Rattle.std.proofs.lemmas.Bool.Decides.{nat_tests}
use Rattle.base.specs.declared.item.Cell.{Cell}
use Rattle.ranges.specs.declared.run_list.Run.{Run}
use Rattle.ranges.specs.declared.slide.Slide.{Slide}
use Rattle.ranges.specs.Reach.{cell_of}
use Rattle.ranges.specs.RunLists.{AreApart, AreRuns, EndsBefore, end_of_run, is_in_run}
use Rattle.ranges.proofs.MovingParts.{IsReached, begins_at}
use Rattle.ranges.proofs.RunSteps.{all_weaker}
use Rattle.ranges.proofs.RunsUnique.{first_in, not_in_rest}

all_both : {X : Type 0} (P Q R : X → Type 0) (xs : List X) → ((x : X) → P x → Q x → R x) → AllByRecursion P xs →
    AllByRecursion Q xs → AllByRecursion R xs
all_both P Q R [] f h g = tt
all_both P Q R (x ∷ xs) f h g = (f x h.0 g.0, all_both P Q R xs f h.1 g.1)

abbrev first_cell : Run → Cell
first_cell r = cell_of r.array.0 r.first

abbrev IsThere : List Run → Run → Type 0
IsThere runs r = list_any (is_in_run (first_cell r)) runs ≡ true

all_there : (runs : List Run) → AllByRecursion (λ r. 1 ≤ r.length) runs → AllByRecursion (IsThere runs) runs
all_there [] h = tt
all_there (r ∷ runs) h = (
  ap (λ x. x || list_any (is_in_run (first_cell r)) runs) (first_in r h.0),
  all_weaker (IsThere runs) (IsThere (r ∷ runs)) runs
      (λ s e. ap (λ x. is_in_run (first_cell s) r || x) e ∙ or-true (is_in_run (first_cell s) r)) (all_there runs h.1),
)

-- the cell before its first one is in no run
abbrev IsGap : List Run → Run → Type 0
IsGap runs r = (i : ℕ) → suc i ≡ r.first → list_any (is_in_run (cell_of r.array.0 i)) runs ≡ false

gap_behind : (r s : Run) (runs : List Run) → EndsBefore s.array.0 s.first r → IsGap runs s → IsGap (r ∷ runs) s
gap_behind r s runs ends gap i e =
    let out : is_in_run (cell_of s.array.0 i) r ≡ false = ⊎_elim
    (λ (lt : r.array.0 < s.array.0). grind (arith, nat_tests))
    (λ (u : (r.array.0 ≡ s.array.0) × (end_of_run r < s.first)). let lt = u.1 in grind (arith, nat_tests)) ends in
    ap₂ (λ x y. x || y) out (gap i e)

all_gaps : (runs : List Run) → AreApart runs → AllByRecursion (IsGap runs) runs
all_gaps [] h = tt
all_gaps (r ∷ runs) h = (
  λ i e.
      let out : is_in_run (cell_of r.array.0 i) r ≡ false = grind (arith, nat_tests) in
      ap₂ (λ x y. x || y) out (not_in_rest r runs (cell_of r.array.0 i) (inr (refl, omega arith)) h.0),
  all_both (λ s. EndsBefore s.array.0 s.first r) (IsGap runs) (IsGap (r ∷ runs)) runs
      (λ s ends gap. gap_behind r s runs ends gap) h.0 (all_gaps runs h.1),
)

abbrev Begins : List Slide → Run → Type 0
Begins slides r = list_any (begins_at (first_cell r)) slides ≡ true

-- without the first access that begins at a cell
take_out : Cell → List Slide → List Slide
take_out c [] = []
take_out c (s ∷ slides) = if begins_at c s then slides else s ∷ take_out c slides

one_less : (c : Cell) (slides : List Slide) → list_any (begins_at c) slides ≡ true → length slides ≡ suc (length (take_out c slides))
unfolding take_out
one_less c [] h = absurd (false≢true h)
one_less c (s ∷ slides) h = go (begins_at c s) h (one_less c slides)
  where
    go : (b : Bool) → (b || list_any (begins_at c) slides) ≡ true →
        (list_any (begins_at c) slides ≡ true → length slides ≡ suc (length (take_out c slides))) →
        suc (length slides) ≡ suc (length (if b then slides else s ∷ take_out c slides))
    go true e rest = refl
    go false e rest = ap suc (rest e)

others_kept : (c d : Cell) (slides : List Slide) → ((s : Slide) → begins_at c s ≡ true → begins_at d s ≡ false) →
    list_any (begins_at d) slides ≡ list_any (begins_at d) (take_out c slides)
unfolding take_out
others_kept c d [] f = refl
others_kept c d (s ∷ slides) f = go (begins_at c s) refl (others_kept c d slides f)
  where
    go : (b : Bool) → begins_at c s ≡ b → list_any (begins_at d) slides ≡ list_any (begins_at d) (take_out c slides) →
        (begins_at d s || list_any (begins_at d) slides)
        ≡ list_any (begins_at d) (if b then slides else s ∷ take_out c slides)
    go true e rest = ap (λ x. x || list_any (begins_at d) slides) (f s e)
    go false e rest = ap (λ x. begins_at d s || x) rest

-- two runs begin at two cells
two_cells : (r t : Run) → EndsBefore t.array.0 t.first r → (s : Slide) → begins_at (first_cell r) s ≡ true →
    begins_at (first_cell t) s ≡ false
two_cells r t ends s h = ⊎_elim
    (λ (lt : r.array.0 < t.array.0). grind (arith, nat_tests))
    (λ (u : (r.array.0 ≡ t.array.0) × (end_of_run r < t.first)). let lt = u.1 in grind (arith, nat_tests)) ends

no_more : (runs : List Run) (slides : List Slide) → AreApart runs → AllByRecursion (Begins slides) runs → length runs ≤ length slides
no_more [] slides apart h = omega arith
no_more (r ∷ runs) slides apart h =
    let less = one_less (first_cell r) slides h.0 in
    let rest = no_more runs (take_out (first_cell r) slides) apart.1
    (all_both (λ t. EndsBefore t.array.0 t.first r) (Begins slides) (Begins (take_out (first_cell r) slides)) runs
    (λ t ends e. sym (others_kept (first_cell r) (first_cell t) slides (two_cells r t ends)) ∙ e) apart.0 h.1) in
    omega (arith, less, rest)

pub few_runs : (p : Cell → Bool) (slides : List Slide) (runs : List Run) →
    ((a i : ℕ) → p (cell_of a i) ≡ true → IsReached p slides a i) → AreRuns p runs → length runs ≤ length slides
few_runs p slides runs reached h =
    no_more runs slides h.apart
    (all_both (IsThere runs) (IsGap runs) (Begins slides) runs
    (λ r there gap. begins r r.first refl (sym (h.cells (first_cell r)) ∙ there) gap)
    (all_there runs h.some) (all_gaps runs h.apart))
  where
    begins : (r : Run) (n : ℕ) → n ≡ r.first → p (first_cell r) ≡ true → IsGap runs r → Begins slides r
    begins r zero e there gap =
        subst (λ m. list_any (begins_at (cell_of r.array.0 m)) slides ≡ true) e
        (reached r.array.0 zero (ap (λ m. p (cell_of r.array.0 m)) e ∙ there))
    begins r (suc i) e there gap =
        subst (λ m. list_any (begins_at (cell_of r.array.0 m)) slides ≡ true) e
        (⊎_elim (λ (here : list_any (begins_at (cell_of r.array.0 (suc i))) slides ≡ true). here)
        (λ (before : p (cell_of r.array.0 i) ≡ true).
        absurd (false≢true (sym (gap i e) ∙ h.cells (cell_of r.array.0 i) ∙ before)))
        (reached r.array.0 (suc i) (ap (λ m. p (cell_of r.array.0 m)) e ∙ there)))
