-- The least runs that have some cells.
use Rattle.std.proofs.Common.{◌≡◌, ℕ, ◌+◌, ◌-◌, ◌<◌, ◌≤◌, Bool, true, false, List, [], ◌∷◌, ◌++◌, length, Option, Some, None, sym, ◌∙◌, ap, refl, subst, max, min, ⊎_elim, length-append, arith}
use Rattle.std.specs.Prelude.{nat_le, nat_lt, slice_get, unwrap_or, ◌&&◌, ◌||◌}
use Rattle.std.proofs.lemmas.Bool.{false≢true, ltb-true, ltb-false, or_cases, or_left, or_right, cases_lt, le-leb}
use Rattle.base.specs.declared.item.Section.{Section}
use Rattle.base.specs.Memory.{end_of}
use Rattle.bits.specs.Sets.{IsEndOf, IsFirstAt}
use Rattle.ranges.specs.Reach.{AreLeastRuns, IsFirstOr, IsLeastRun, cell_of}
use Rattle.base.specs.declared.item.Cell.{Cell}
use Rattle.base.proofs.Places.{get_left, get_right}
use Rattle.std.proofs.lemmas.Option.{slice_get_within, same_Some}

from_none : (p : ℕ → Bool) (i : ℕ) → (nat_le 0 i && p i) ≡ p i
from_none p i = ap (λ b. b && p i) (le-leb 0 i (omega arith))

-- the first place, or the end
pub first_or : (p : ℕ → Bool) (end : ℕ) (o : Option ℕ) → IsFirstAt (λ i. nat_le 0 i && p i) o →
    ((i : ℕ) → p i ≡ true → i < end) → IsFirstOr p end (unwrap_or o end)
first_or p end None none below = record {
  within = omega arith;
  from = λ i e. absurd (false≢true (sym (none i) ∙ from_none p i ∙ e));
  holds = λ h. absurd (omega arith);
}
first_or p end (Some n) h below = record {
  within = let lt : n < end = below n there in omega arith;
  from = λ i e. ⊎_elim (λ (lt : i < n). absurd (false≢true (sym (h.1 i lt) ∙ from_none p i ∙ e))) (λ (le : n ≤ i). le)
      (cases_lt i n);
  holds = λ lt. there;
}
  where
    there : p n ≡ true
    there = sym (from_none p n) ∙ h.0

-- the run from the first place of either of two sets up to the last one
pub least_run : (p q : ℕ → Bool) (m n first second : ℕ) (s : Section) → IsEndOf p m → IsEndOf q n →
    IsFirstOr p (max m n) first → IsFirstOr q (max m n) second → s.first ≡ min first second →
    s.length ≡ max m n - min first second → IsLeastRun (λ i. p i || q i) s
least_run p q m n first second s ends ends' begins begins' is length_is = record {
  from = λ i e. ⊎_elim (λ (h : p i ≡ true). let le : first ≤ i = begins.from i h in omega arith)
      (λ (h : q i ≡ true). let le : second ≤ i = begins'.from i h in omega arith) (or_cases (p i) (q i) e);
  below = λ i e. ⊎_elim
      (λ (h : p i ≡ true). let lt : i < m = ends.below i h in let le : first ≤ i = begins.from i h in omega arith)
      (λ (h : q i ≡ true). let lt : i < n = ends'.below i h in let le : second ≤ i = begins'.from i h in omega arith)
      (or_cases (p i) (q i) e);
  first = λ some. ⊎_elim
      (λ (lt : second < first).
      let e : s.first ≡ second = omega arith in
      or_right (p s.first) (q s.first) (ap q e ∙ begins'.holds (omega arith)))
      (λ (le : first ≤ second).
      let e : s.first ≡ first = omega arith in
      or_left (p s.first) (q s.first) (ap p e ∙ begins.holds (omega arith))) (cases_lt second first);
  last = λ some. ⊎_elim
      (λ (lt : m < n).
      let e : end_of s - 1 ≡ n - 1 = omega arith in
      or_right (p (end_of s - 1)) (q (end_of s - 1)) (ap q e ∙ ends'.last (omega arith)))
      (λ (le : n ≤ m).
      let e : end_of s - 1 ≡ m - 1 = omega arith in
      or_left (p (end_of s - 1)) (q (end_of s - 1)) (ap p e ∙ ends.last (omega arith))) (cases_lt m n);
}

-- Runs of several arrays, one more.
pub least_more : (p : Cell → Bool) (n : ℕ) (runs after : List Section) (s : Section) → s.array.0 ≡ n →
    IsLeastRun (λ i. p (cell_of n i)) s → after ≡ runs ++ s ∷ [] → AreLeastRuns p n runs → AreLeastRuns p (n + 1) after
least_more p n runs after s a one e h = record {
  count = ap length e ∙ long;
  of_arrays = λ k t f. (part k t f).0;
  least = λ k t f. (part k t f).1;
}
  where
    long : length (runs ++ s ∷ []) ≡ n + 1
    long = let l = length-append runs (s ∷ []) in let c = h.count in omega arith

    part : (k : ℕ) (t : Section) → slice_get after k ≡ Some t → (t.array.0 ≡ k) × IsLeastRun (λ i. p (cell_of k i)) t
    part k t f = go (nat_lt k n) refl
      where
        g : slice_get (runs ++ s ∷ []) k ≡ Some t
        g = ap (λ xs. slice_get xs k) (sym e) ∙ f

        go : (b : Bool) → nat_lt k n ≡ b → (t.array.0 ≡ k) × IsLeastRun (λ i. p (cell_of k i)) t
        go true l =
            let m = ltb-true k n l in
            let c = h.count in
            let old = sym (get_left runs (s ∷ []) k (omega arith)) ∙ g in
            (h.of_arrays k t old, h.least k t old)
        go false l =
            let m = ltb-false k n l in
            let c = h.count in
            let w = slice_get_within (runs ++ s ∷ []) k t g in
            let all = long in
            let is : n ≡ k = omega arith in
            let none : k - length runs ≡ 0 = omega arith in
            let last : slice_get (runs ++ s ∷ []) k ≡ Some s =
            get_right runs (s ∷ []) k (omega arith) ∙ ap (slice_get (s ∷ [])) none in
            let same : s ≡ t = same_Some s t (sym last ∙ g) in
            subst (λ x. (x.array.0 ≡ k) × IsLeastRun (λ i. p (cell_of k i)) x) same
            (subst (λ (m : ℕ). (s.array.0 ≡ m) × IsLeastRun (λ i. p (cell_of m i)) s) is (a, one))

-- a run of no cell
pub no_run : (s : Section) → s.length ≡ 0 → IsLeastRun (λ i. false) s
no_run s e = record {
  from = λ i h. absurd (false≢true h);
  below = λ i h. absurd (false≢true h);
  first = λ h. absurd (omega arith);
  last = λ h. absurd (omega arith);
}
