-- Cells that are added to a row one after the other.
use Rattle.std.proofs.Common.{◌≡◌, ℕ, ◌+◌, ◌<◌, ◌≤◌, ◌==◌, Bool, true, false, refl, sym, ap, ap₂, ◌∙◌, arith, eqb-true}
use Rattle.std.specs.Prelude.{not, ◌&&◌, ◌||◌, nat_le, nat_lt}
use Rattle.std.proofs.Math.Bool.{or-false, or-true}
use Rattle.std.proofs.lemmas.Bool.Decides.{nat_tests}
use mathlib.Core.Path.{fun_ext}
use Rattle.bits.specs.declared.set.BitSet.{BitSet}
use Rattle.bits.specs.Sets.{has, is_from, room, start}
use Rattle.ranges.specs.Rows.{is_within}
use Rattle.base.specs.declared.fault.Interval.{Interval}

-- the marks, and those from lo up to i and to the end, where nothing is excluded
abbrev pub marked_to : (ℕ → Bool) → ℕ → ℕ → ℕ → (ℕ → Bool) → ℕ → Bool
marked_to before lo i end excluded j = before j || ((nat_le lo j && (nat_lt j i && nat_lt j end)) && not (excluded j))

-- a row with room enough, marked up to i
pub record Marked (before excluded : ℕ → Bool) (lo i end : ℕ) (row : BitSet) : Type 0 where
  pub begins : start row ≤ lo
  pub long : end ≤ room row
  pub marked : has row ≡ marked_to before lo i end excluded

begins : (before : ℕ → Bool) (lo end : ℕ) (excluded : ℕ → Bool) (j : ℕ) → before j ≡ marked_to before lo lo end excluded j
begins before lo end excluded j = grind (arith, nat_tests)

-- nothing is marked at the beginning
pub marks_begin : (row now : ℕ → Bool) (lo end : ℕ) (excluded : ℕ → Bool) → ((j : ℕ) → now j ≡ row j) →
    now ≡ marked_to row lo lo end excluded
marks_begin row now lo end excluded e = fun_ext (λ j. e j ∙ begins row lo end excluded j)

one_later : (i j : ℕ) → (i == j) ≡ false → nat_lt j i ≡ nat_lt j (i + 1)
one_later i j e = grind (arith, nat_tests)

excluded_is : (b x : Bool) → x ≡ true → (b && not x) ≡ false
excluded_is true x e = ap not e
excluded_is false x e = refl

passed : (before excluded : ℕ → Bool) (lo i end : ℕ) → excluded i ≡ true → (j : ℕ) →
    marked_to before lo i end excluded j ≡ marked_to before lo (i + 1) end excluded j
passed before excluded lo i end h j = go (i == j) refl
  where
    go : (b : Bool) → (i == j) ≡ b → marked_to before lo i end excluded j ≡ marked_to before lo (i + 1) end excluded j
    go true e =
        let x : excluded j ≡ true = ap excluded (sym (eqb-true i j e)) ∙ h in
        ap (λ m. before j || m) (excluded_is (nat_le lo j && (nat_lt j i && nat_lt j end)) (excluded j) x
        ∙ sym (excluded_is (nat_le lo j && (nat_lt j (i + 1) && nat_lt j end)) (excluded j) x))
    go false e = ap (λ m. before j || ((nat_le lo j && (m && nat_lt j end)) && not (excluded j))) (one_later i j e)

pub mark_passed : (before excluded row : ℕ → Bool) (lo i end : ℕ) → excluded i ≡ true →
    row ≡ marked_to before lo i end excluded →
    row ≡ marked_to before lo (i + 1) end excluded
mark_passed before excluded row lo i end h e = e ∙ fun_ext (λ j. passed before excluded lo i end h j)

reached : (lo i j end : ℕ) → (i == j) ≡ true → lo ≤ i → i < end → (nat_le lo j && (nat_lt j (i + 1) && nat_lt j end)) ≡
    true
reached lo i j end e low high = grind (arith, nat_tests)

set_here : (before excluded : ℕ → Bool) (lo i end : ℕ) → excluded i ≡ false → lo ≤ i → i < end → (j : ℕ) →
    (marked_to before lo i end excluded j || (i == j)) ≡ marked_to before lo (i + 1) end excluded j
set_here before excluded lo i end h low high j = go (i == j) refl
  where
    go : (b : Bool) → (i == j) ≡ b → (marked_to before lo i end excluded j || b) ≡ marked_to before lo (i + 1) end
        excluded j
    go true e =
        let x : excluded j ≡ false = ap excluded (sym (eqb-true i j e)) ∙ h in
        or-true (marked_to before lo i end excluded j)
        ∙ sym (ap₂ (λ m y. before j || (m && not y)) (reached lo i j end e low high) x ∙ or-true (before j))
    go false e =
        or-false (marked_to before lo i end excluded j)
        ∙ ap (λ m. before j || ((nat_le lo j && (m && nat_lt j end)) && not (excluded j))) (one_later i j e)

pub mark_set : (before excluded row new : ℕ → Bool) (lo i end : ℕ) → excluded i ≡ false → lo ≤ i → i < end →
    ((j : ℕ) → new j ≡ (row j || (i == j))) →
    row ≡ marked_to before lo i end excluded →
    new ≡ marked_to before lo (i + 1) end excluded
mark_set before excluded row new lo i end h low high is e =
    fun_ext (λ j. is j ∙ ap (λ f. f j || (i == j)) e ∙ set_here before excluded lo i end h low high j)

past : (i j hi : ℕ) → hi + 1 ≤ i → (nat_lt j i && nat_lt j (hi + 1)) ≡ nat_le j hi
past i j hi h = grind (arith, nat_tests)

ends : (before excluded : ℕ → Bool) (cells : Interval) (i : ℕ) → cells.hi + 1 ≤ i → (j : ℕ) →
    marked_to before cells.lo i (cells.hi + 1) excluded j
    ≡ (before j || (is_within cells j && not (excluded j)))
ends before excluded cells i h j =
    ap (λ m. before j || ((nat_le cells.lo j && m) && not (excluded j))) (past i j cells.hi h)

-- at the end the whole interval is
pub marks_end : (before excluded row : ℕ → Bool) (cells : Interval) (i : ℕ) → cells.hi + 1 ≤ i →
    row ≡ marked_to before cells.lo i (cells.hi + 1) excluded →
    row ≡ (λ j. before j || (is_within cells j && not (excluded j)))
marks_end before excluded row cells i h e = e ∙ fun_ext (λ j. ends before excluded cells i h j)

same_cells : (cells : Interval) (j : ℕ) → is_from cells.lo (cells.hi + 1) j ≡ is_within cells j
same_cells cells j = grind (arith, nat_tests)

-- a whole interval that is added at once
pub interval_added : (before row new : ℕ → Bool) (cells : Interval) → ((j : ℕ) → row j ≡ before j) →
    ((j : ℕ) → new j ≡ (row j || is_from cells.lo (cells.hi + 1) j)) →
    new ≡ (λ j. before j || is_within cells j)
interval_added before row new cells e is = fun_ext (λ j. is j ∙ ap₂ (λ a b. a || b) (e j) (same_cells cells j))
