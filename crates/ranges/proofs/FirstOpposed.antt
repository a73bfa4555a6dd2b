-- The first cell of an interval that was touched in a way which opposes another.
use Rattle.std.proofs.Common.{◌≡◌, ℕ, zero, suc, ◌+◌, ◌-◌, ◌<◌, ◌≤◌, Bool, true, false, Option, Some, None, refl, sym, ap, ◌∙◌, ⊎_elim, arith, eqb-true}
use Rattle.std.specs.Prelude.{cond, min, nat_le, nat_lt, ◌&&◌, ◌||◌, ◌==◌, option_map}
use Rattle.std.proofs.lemmas.Bool.{and_from, and_left, and_parts, and_right, both_ways, cases_eq, cases_lt, eq-eqb, false_from_ne_true, or_from, or_left, or_right}
use Rattle.std.proofs.lemmas.Bool.Decides.{nat_tests}
use Rattle.bits.specs.Sets.{IsFirstAt}
use Rattle.base.specs.declared.tree.ArrayId.{ArrayId}
use Rattle.base.specs.declared.item.Cell.{Cell}
use Rattle.base.specs.declared.fault.Interval.{Interval}
use Rattle.base.specs.Least.{IsLeast, is_less}
use Rattle.ranges.specs.Cells.{is_among}
use Rattle.ranges.specs.Rows.{is_within}
use Rattle.ranges.specs.Ways.{cell_in, first_in, first_opposed, lesser_number, opposed, ways}

-- ---- the first number

-- of n numbers from one on
abbrev in_run : ℕ → ℕ → ℕ → Bool
in_run n from i = nat_le from i && nat_lt i (from + n)

empty_run : (from i : ℕ) → in_run 0 from i ≡ false
empty_run from i = grind (arith, nat_tests)

run_start : (n from : ℕ) → in_run (suc n) from from ≡ true
run_start n from = grind (arith, nat_tests)

below_run : (n from j : ℕ) → j < from → in_run (suc n) from j ≡ false
below_run n from j l = grind (arith, nat_tests)

next_run : (n from i : ℕ) → (i ≡ from → ⊥) → in_run (suc n) from i ≡ in_run n (from + 1) i
next_run n from i h = grind (arith, nat_tests)

first_is : (n from : ℕ) (p : ℕ → Bool) → IsFirstAt (λ i. in_run n from i && p i) (first_in n from p)
unfolding first_in
first_is zero from p = λ i. and_left (in_run 0 from i) (p i) (empty_run from i)
first_is (suc n) from p = go (p from) refl (first_in n (from + 1) p) (first_is n (from + 1) p)
  where
    same : p from ≡ false → (i : ℕ) → (in_run (suc n) from i && p i) ≡ (in_run n (from + 1) i && p i)
    same e i =
        ⊎_elim
        (λ (is : i ≡ from). let f : p i ≡ false = ap p is ∙ e in
        and_right (in_run (suc n) from i) (p i) f ∙ sym (and_right (in_run n (from + 1) i) (p i) f))
        (λ (is : i ≡ from → ⊥). ap (λ (b : Bool). b && p i) (next_run n from i is)) (cases_eq i from)

    go : (b : Bool) → p from ≡ b → (o : Option ℕ) → IsFirstAt (λ i. in_run n (from + 1) i && p i) o →
        IsFirstAt (λ i. in_run (suc n) from i && p i) (cond b (Some from) o)
    go true e o h = (
      and_from (in_run (suc n) from from) (p from) (run_start n from) e,
      λ j l. and_left (in_run (suc n) from j) (p j) (below_run n from j l),
    )
    go false e None h = λ i. same e i ∙ h i
    go false e (Some k) h = (same e k ∙ h.0, λ j l. same e j ∙ h.1 j l)

pub first_same : (p q : ℕ → Bool) (o : Option ℕ) → ((i : ℕ) → p i ≡ q i) → IsFirstAt p o → IsFirstAt q o
first_same p q None e h = λ i. sym (e i) ∙ h i
first_same p q (Some k) e h = (sym (e k) ∙ h.0, λ j l. sym (e j) ∙ h.1 j l)

pub first_unique : (p : ℕ → Bool) (a b : Option ℕ) → IsFirstAt p a → IsFirstAt p b → a ≡ b
first_unique p None None h k = refl
first_unique p None (Some j) h k = absurd (both_ways (p j) (h j) k.0)
first_unique p (Some i) None h k = absurd (both_ways (p i) (k i) h.0)
first_unique p (Some i) (Some j) h k =
    ⊎_elim (λ l. absurd (both_ways (p i) (k.1 i l) h.0))
    (λ l. ⊎_elim (λ m. absurd (both_ways (p j) (h.1 j m) k.0)) (λ m. let e : i ≡ j = omega arith in ap Some e) (cases_lt j i))
    (cases_lt i j)

run_within : (cells : Interval) (i : ℕ) → in_run (cells.hi + 1 - cells.lo) cells.lo i ≡ is_within cells i
run_within cells i = go cells.lo cells.hi
  where
    go : (lo hi : ℕ) → (nat_le lo i && nat_lt i (lo + (hi + 1 - lo))) ≡ (nat_le lo i && nat_le i hi)
    go lo hi = grind (arith, nat_tests)

first_opposed_is : (way : ℕ) (a : ArrayId) (cells : Interval) (touched : ℕ → Cell → Bool) →
    IsFirstAt (λ i. is_within cells i && opposed ways way touched (cell_in a i)) (first_opposed way a cells touched)
unfolding first_opposed
first_opposed_is way a cells touched =
    let q : ℕ → Bool = λ i. opposed ways way touched (cell_in a i) in
    first_same (λ i. in_run (cells.hi + 1 - cells.lo) cells.lo i && q i) (λ i. is_within cells i && q i)
    (first_in (cells.hi + 1 - cells.lo) cells.lo q) (λ i. ap (λ (b : Bool). b && q i) (run_within cells i))
    (first_is (cells.hi + 1 - cells.lo) cells.lo q)

-- what was found is it
pub found_first : (way : ℕ) (a : ArrayId) (cells : Interval) (touched : ℕ → Cell → Bool) (found : Option ℕ) →
    IsFirstAt (λ i. is_within cells i && opposed ways way touched (cell_in a i)) found →
    found ≡ first_opposed way a cells touched
found_first way a cells touched found h =
    first_unique (λ i. is_within cells i && opposed ways way touched (cell_in a i)) found
    (first_opposed way a cells touched) h (first_opposed_is way a cells touched)

-- of two tests, either of which may hold
pub lesser_first : (p q : ℕ → Bool) (a b : Option ℕ) → IsFirstAt p a → IsFirstAt q b →
    IsFirstAt (λ i. p i || q i) (lesser_number a b)
lesser_first p q None b h k = first_same q (λ i. p i || q i) b (λ i. sym (ap (λ (x : Bool). x || q i) (h i))) k
lesser_first p q (Some i) None h k =
    (or_left (p i) (q i) h.0, λ j l. or_from (p j) (q j) (h.1 j l) (k j))
lesser_first p q (Some i) (Some j) h k = (
  ⊎_elim
      (λ l. let e : min i j ≡ i = omega arith in or_left (p (min i j)) (q (min i j)) (ap p e ∙ h.0))
      (λ l. let e : min i j ≡ j = omega arith in or_right (p (min i j)) (q (min i j)) (ap q e ∙ k.0)) (cases_lt i j),
  λ m l. or_from (p m) (q m) (h.1 m (omega arith)) (k.1 m (omega arith)),
)

-- ---- the cell

cell_same : (a : ArrayId) (c : Cell) → a.0 ≡ c.array.0 → cell_in a c.index ≡ c
cell_same a c e = ap (λ (k : ℕ). record { array = record { 0 = k }; index = c.index }) e

not_less : (a : ArrayId) (i : ℕ) (d : Cell) → a.0 ≡ d.array.0 → i ≤ d.index → is_less d (cell_in a i) ≡ false
not_less a i d e l = grind (arith, nat_tests)

pub least_opposed : (way : ℕ) (a : ArrayId) (cells : Interval) (touched : ℕ → Cell → Bool) →
    IsLeast (λ c. is_among a cells c && opposed ways way touched c) (option_map (cell_in a) (first_opposed way a cells touched))
least_opposed way a cells touched = go (first_opposed way a cells touched) (first_opposed_is way a cells touched)
  where
    -- a cell of these is one at its index
    held : (c : Cell) → (is_among a cells c && opposed ways way touched c) ≡ true →
        (a.0 ≡ c.array.0) × ((is_within cells c.index && opposed ways way touched (cell_in a c.index)) ≡ true)
    held c t =
        let parts = and_parts (is_among a cells c) (opposed ways way touched c) t in
        let there = and_parts (a.0 == c.array.0) (is_within cells c.index) parts.0 in
        let e : a.0 ≡ c.array.0 = eqb-true a.0 c.array.0 there.0 in (
          e,
          and_from (is_within cells c.index) (opposed ways way touched (cell_in a c.index)) there.1
              (ap (opposed ways way touched) (cell_same a c e) ∙ parts.1),
        )

    go : (o : Option ℕ) → IsFirstAt (λ i. is_within cells i && opposed ways way touched (cell_in a i)) o →
        IsLeast (λ c. is_among a cells c && opposed ways way touched c) (option_map (cell_in a) o)
    go None h = λ c. false_from_ne_true (is_among a cells c && opposed ways way touched c) (λ t.
        both_ways (is_within cells c.index && opposed ways way touched (cell_in a c.index)) (h c.index) (held c t).1)
    go (Some i) h = (
      (let parts = and_parts (is_within cells i) (opposed ways way touched (cell_in a i)) h.0 in
          and_from (is_among a cells (cell_in a i)) (opposed ways way touched (cell_in a i))
          (and_from (a.0 == a.0) (is_within cells i) (eq-eqb a.0 a.0 refl) parts.0) parts.1),
      λ d t. ⊎_elim
          (λ l. absurd (both_ways (is_within cells d.index && opposed ways way touched (cell_in a d.index))
          (h.1 d.index l) (held d t).1))
          (λ l. not_less a i d (held d t).0 l) (cases_lt d.index i),
    )
