-- The first and the last of the numbers at which a test holds, word by word.
use Rattle.std.proofs.Common.{◌≡◌, ℕ, suc, ◌+◌, ◌-◌, ◌*◌, ◌/◌, ◌%◌, ◌^◌, ◌<◌, ◌≤◌, max, Bool, true, false, List, length, get_or, sym, ap, ap₂, ◌∙◌, arith, w64, bit_and, ◌⊎◌, ⊎_elim}
use Rattle.std.specs.Prelude.{Some, not, ◌&&◌, ◌==◌, nat_le}
use Rattle.std.specs.Int.{bit_at, bit_not, trailing_zeros, leading_zeros}
use Rattle.std.proofs.lemmas.Bool.{cases_lt, true≢false, and_left, and_right, le-leb, lt-leb}
use Rattle.std.proofs.lemmas.Nat.Bits.{bit_at-zero, bit_at-trailing_zeros, bit_at_above}
use Rattle.std.proofs.lemmas.Nat.{leading_top, div-mul-add}
use Rattle.std.proofs.Math.Nat.{two-pow-succ, zero-div}
use Rattle.std.proofs.Math.Pow.{shr-shr}
use Rattle.std.proofs.lemmas.List.{get_or_past}
use Rattle.std.proofs.Math.Bool.{and_comm}
use Rattle.bits.specs.declared.set.BitSet.{BitSet}
use Rattle.bits.specs.Sets.{IsFirstAt, IsEndOf, all_words, has, has_bit}
use Rattle.bits.proofs.Bits.{bits_and, bits_minus}
use Rattle.bits.proofs.Words.{past, low}
use Rattle.bits.proofs.Zeros.{below_start}

pub no_bit : (word r : ℕ) → word ≡ 0 → (bit_at word r == 1) ≡ false
no_bit word r e = ap (λ n. bit_at n r == 1) e ∙ ap (λ n. n == 1) (bit_at-zero r)

-- the highest bit
highest : (word j : ℕ) → 2 ^ j ≤ word → word < 2 ^ suc j → bit_at word j ≡ 1
highest word j low high =
    let twice : 2 ^ suc j ≡ 2 ^ j + 2 ^ j = two-pow-succ j in
    let sum : word ≡ 1 * 2 ^ j + (word - 2 ^ j) = omega arith in
    ap (λ n. n / 2 ^ j % 2) sum ∙ ap (λ n. n % 2) (div-mul-add 1 (2 ^ j) (word - 2 ^ j) (omega arith))

-- a word with the bits at which the test holds in it
module _ (p : ℕ → Bool) (k word : ℕ) (is : (i : ℕ) → i / 64 ≡ k → p i ≡ (bit_at word (i % 64) == 1)) where
  -- where it is 0 the test holds at none of them
  pub none_here : word ≡ 0 → (i : ℕ) → i / 64 ≡ k → p i ≡ false
  none_here e i at = is i at ∙ no_bit word (i % 64) e

  pub none_more : word ≡ 0 → ((i : ℕ) → i < 64 * k → p i ≡ false) → (i : ℕ) → i < 64 * (k + 1) → p i ≡ false
  none_more e none i lt =
      ⊎_elim (λ (below : i < 64 * k). none i below) (λ (le : 64 * k ≤ i). none_here e i (omega arith)) (cases_lt i (64 * k))

  pub none_less : word ≡ 0 → ((i : ℕ) → 64 * (k + 1) ≤ i → p i ≡ false) → (i : ℕ) → 64 * k ≤ i → p i ≡ false
  none_less e none i le =
      ⊎_elim (λ (below : i < 64 * (k + 1)). none_here e i (omega arith)) (λ (above : 64 * (k + 1) ≤ i). none i above)
      (cases_lt i (64 * (k + 1)))

  -- else its lowest bit is the first
  pub first_here : 0 < word → word < 2 ^ 64 → ((i : ℕ) → i < 64 * k → p i ≡ false) →
      IsFirstAt p (Some (64 * k + trailing_zeros w64 word))
  first_here some fits none = (here, before)
    where
      zeros : ℕ
      zeros = trailing_zeros w64 word

      t : (trailing_zeros w64 word < 64) × (bit_at word (trailing_zeros w64 word) ≡ 1) × ((i : ℕ) → i < trailing_zeros w64 word → bit_at word i ≡ 0)
      t = bit_at-trailing_zeros w64 word some fits

      here : p (64 * k + trailing_zeros w64 word) ≡ true
      here =
          let inside : trailing_zeros w64 word < 64 = t.0 in
          let r : (64 * k + trailing_zeros w64 word) % 64 ≡ trailing_zeros w64 word = omega arith in
          is (64 * k + trailing_zeros w64 word) (omega arith) ∙ ap (λ b. bit_at word b == 1) r ∙ ap (λ n. n == 1) t.1

      before : (j : ℕ) → j < 64 * k + trailing_zeros w64 word → p j ≡ false
      before j lt =
          let inside : trailing_zeros w64 word < 64 = t.0 in
          ⊎_elim (λ (below : j < 64 * k). none j below)
          (λ (le : 64 * k ≤ j). is j (omega arith) ∙ ap (λ n. n == 1) (t.2 (j % 64) (omega arith))) (cases_lt j (64 * k))

  -- and one past its highest bit the end
  pub end_here : 0 < word → word < 2 ^ 64 → ((i : ℕ) → 64 * (k + 1) ≤ i → p i ≡ false) →
      IsEndOf p (64 * k + (64 - leading_zeros w64 word))
  end_here some fits none = record { below = below; last = λ h. last }
    where
      t : (j : ℕ) × (leading_zeros w64 word + suc j ≡ 64) × (2 ^ j ≤ word) × (word < 2 ^ suc j)
      t = leading_top 64 word some fits

      below : (i : ℕ) → p i ≡ true → i < 64 * k + (64 - leading_zeros w64 word)
      below i holds = ⊎_elim (λ (lt : i < 64 * k + (64 - leading_zeros w64 word)). lt)
          (λ (le : 64 * k + (64 - leading_zeros w64 word) ≤ i). absurd (true≢false (sym holds ∙ ⊎_elim
          (λ (here : i < 64 * (k + 1)).
          let sum : leading_zeros w64 word + suc t.0 ≡ 64 = t.1 in
          is i (omega arith) ∙ ap (λ n. n == 1) (bit_at_above word (suc t.0) (i % 64) t.3 (omega arith)))
          (λ (above : 64 * (k + 1) ≤ i). none i above) (cases_lt i (64 * (k + 1))))))
          (cases_lt i (64 * k + (64 - leading_zeros w64 word)))

      last : p (64 * k + (64 - leading_zeros w64 word) - 1) ≡ true
      last =
          let sum : leading_zeros w64 word + suc t.0 ≡ 64 = t.1 in
          let r : (64 * k + (64 - leading_zeros w64 word) - 1) % 64 ≡ t.0 = omega arith in
          is (64 * k + (64 - leading_zeros w64 word) - 1) (omega arith)
          ∙ ap (λ b. bit_at word b == 1) r
          ∙ ap (λ n. n == 1) (highest word t.0 t.2 t.3)

-- ---- the words of sets

pub bit_in : (words : List ℕ) (k word : ℕ) → word ≡ get_or words k 0 → (i : ℕ) → i / 64 ≡ k →
    has_bit words i ≡ (bit_at word (i % 64) == 1)
bit_in words k word is i at =
    ap (λ m. bit_at (get_or words m 0) (i % 64) == 1) at ∙ ap (λ n. bit_at n (i % 64) == 1) (sym is)

-- the numbers that two sets have in common
pub common_word : (a b : List ℕ) (k x y : ℕ) → x ≡ get_or a k 0 → y ≡ get_or b k 0 → (i : ℕ) → i / 64 ≡ k →
    (has_bit a i && has_bit b i) ≡ (bit_at (bit_and x y) (i % 64) == 1)
common_word a b k x y is_x is_y i at =
    ap₂ (λ u v. u && v) (bit_in a k x is_x i at) (bit_in b k y is_y i at) ∙ sym (bits_and x y (i % 64))

-- the numbers that another set has not
pub rest_word : (a b : List ℕ) (k x y : ℕ) → x ≡ get_or a k 0 → y ≡ get_or b k 0 → y < 2 ^ 64 → (i : ℕ) → i / 64 ≡ k →
    (has_bit a i && not (has_bit b i)) ≡ (bit_at (bit_and x (bit_not w64 y)) (i % 64) == 1)
rest_word a b k x y is_x is_y fits i at =
    ap₂ (λ u v. u && not v) (bit_in a k x is_x i at) (bit_in b k y is_y i at)
    ∙ and_comm (bit_at x (i % 64) == 1) (not (bit_at y (i % 64) == 1))
    ∙ sym (bits_minus x y (i % 64) fits (low i))

pub none_common : (a b : List ℕ) (k : ℕ) → (length a ≤ k) ⊎ (length b ≤ k) →
    ((i : ℕ) → i < 64 * k → (has_bit a i && has_bit b i) ≡ false) → (i : ℕ) → (has_bit a i && has_bit b i) ≡ false
none_common a b k end none i =
    ⊎_elim (λ (below : i < 64 * k). none i below)
    (λ (le : 64 * k ≤ i). ⊎_elim
    (λ (all : length a ≤ k). ap (λ u. u && has_bit b i) (past a i (omega arith)))
    (λ (all : length b ≤ k). and_right (has_bit a i) (has_bit b i) (past b i (omega arith))) end) (cases_lt i (64 * k))

pub none_left : (a : List ℕ) (k : ℕ) (other : ℕ → Bool) → length a ≤ k →
    ((i : ℕ) → i < 64 * k → (has_bit a i && other i) ≡ false) → (i : ℕ) → (has_bit a i && other i) ≡ false
none_left a k other end none i =
    ⊎_elim (λ (below : i < 64 * k). none i below)
    (λ (le : 64 * k ≤ i). ap (λ u. u && other i) (past a i (omega arith))) (cases_lt i (64 * k))

-- ---- from a number on

pub not_past : (words : List ℕ) (w s : ℕ) → (get_or words w 0 / 2 ^ s ≡ 0 → ⊥) → w < length words
not_past words w s some = ⊎_elim (λ (lt : w < length words). lt)
    (λ (le : length words ≤ w). absurd (some (ap (λ n. n / 2 ^ s) (get_or_past words w 0 le) ∙ zero-div (2 ^ s))))
    (cases_lt w (length words))

module _ (words : List ℕ) (from rest : ℕ) (is : rest ≡ get_or words (from / 64) 0 / 2 ^ (from % 64)) where
  -- the bits of the word in which it stands, without those below it
  shifted : (j : ℕ) → bit_at rest j ≡ bit_at (get_or words (from / 64) 0) (from % 64 + j)
  shifted j = ap (λ n. bit_at n j) is ∙ ap (λ n. n % 2) (shr-shr (get_or words (from / 64) 0) (from % 64) j)

  at_from : (i : ℕ) → from ≤ i → i / 64 ≡ from / 64 → has_bit words i ≡ (bit_at rest (i - from) == 1)
  at_from i le at =
      let r : i % 64 ≡ from % 64 + (i - from) = omega arith in
      ap₂ (λ w r. bit_at (get_or words w 0) r == 1) at r ∙ sym (ap (λ n. n == 1) (shifted (i - from)))

  before_from : (i : ℕ) → i < from → (nat_le from i && has_bit words i) ≡ false
  before_from i lt = and_left (nat_le from i) (has_bit words i) (lt-leb from i lt)

  pub none_from : rest ≡ 0 → (i : ℕ) → i < 64 * (from / 64 + 1) → (nat_le from i && has_bit words i) ≡ false
  none_from e i lt = ⊎_elim (λ (below : i < from). before_from i below)
      (λ (le : from ≤ i). and_right (nat_le from i) (has_bit words i)
      (at_from i le (omega arith) ∙ no_bit rest (i - from) e)) (cases_lt i from)

  pub first_in_rest : get_or words (from / 64) 0 < 2 ^ 64 → 0 < rest → rest < 2 ^ 64 →
      IsFirstAt (λ i. nat_le from i && has_bit words i) (Some (from + trailing_zeros w64 rest))
  first_in_rest fit some fits = (here, before)
    where
      t : (trailing_zeros w64 rest < 64) × (bit_at rest (trailing_zeros w64 rest) ≡ 1) × ((i : ℕ) → i < trailing_zeros w64 rest → bit_at rest i ≡ 0)
      t = bit_at-trailing_zeros w64 rest some fits

      inside : from % 64 + trailing_zeros w64 rest < 64
      inside = ⊎_elim (λ (lt : from % 64 + trailing_zeros w64 rest < 64). lt)
          (λ (le : 64 ≤ from % 64 + trailing_zeros w64 rest).
          let none : bit_at (get_or words (from / 64) 0) (from % 64 + trailing_zeros w64 rest) ≡ 0 =
          bit_at_above (get_or words (from / 64) 0) 64 (from % 64 + trailing_zeros w64 rest) fit le in
          let one : bit_at rest (trailing_zeros w64 rest) ≡ 1 = t.1 in
          let same : bit_at rest (trailing_zeros w64 rest) ≡ bit_at (get_or words (from / 64) 0) (from % 64 + trailing_zeros w64 rest) =
          shifted (trailing_zeros w64 rest) in
          absurd (omega arith)) (cases_lt (from % 64 + trailing_zeros w64 rest) 64)

      here : (nat_le from (from + trailing_zeros w64 rest) && has_bit words (from + trailing_zeros w64 rest)) ≡ true
      here =
          let low : from % 64 + trailing_zeros w64 rest < 64 = inside in
          let left : from + trailing_zeros w64 rest - from ≡ trailing_zeros w64 rest = omega arith in
          ap₂ (λ u v. u && v) (le-leb from (from + trailing_zeros w64 rest) (omega arith))
          (at_from (from + trailing_zeros w64 rest) (omega arith) (omega arith)
          ∙ ap (λ j. bit_at rest j == 1) left ∙ ap (λ n. n == 1) t.1)

      before : (j : ℕ) → j < from + trailing_zeros w64 rest → (nat_le from j && has_bit words j) ≡ false
      before j lt =
          let low : from % 64 + trailing_zeros w64 rest < 64 = inside in
          ⊎_elim (λ (below : j < from). before_from j below)
          (λ (le : from ≤ j). and_right (nat_le from j) (has_bit words j)
          (at_from j le (omega arith) ∙ ap (λ n. n == 1) (t.2 (j - from) (omega arith)))) (cases_lt j from)

-- no number below the start is in the set either
pub none_from_or_before : (s : BitSet) (from rest : ℕ) → rest ≡ get_or (all_words s) (from / 64) 0 / 2 ^ (from % 64) → rest ≡ 0 →
    (i : ℕ) → i < 64 * max (from / 64 + 1) s.skipped → (nat_le from i && has s i) ≡ false
none_from_or_before s from rest is e i lt =
    ⊎_elim (none_from (all_words s) from rest is e i)
    (λ (le : 64 * (from / 64 + 1) ≤ i). and_right (nat_le from i) (has s i) (below_start s i (omega arith)))
    (cases_lt i (64 * (from / 64 + 1)))

-- a word above it
pub above_from : (words : List ℕ) (from k word : ℕ) → from / 64 + 1 ≤ k → word ≡ get_or words k 0 → (i : ℕ) →
    i / 64 ≡ k → (nat_le from i && has_bit words i) ≡ (bit_at word (i % 64) == 1)
above_from words from k word le is i at =
    ap (λ b. b && has_bit words i) (le-leb from i (omega arith)) ∙ bit_in words k word is i at

pub none_after : (words : List ℕ) (k : ℕ) (test : ℕ → Bool) → length words ≤ k →
    ((i : ℕ) → i < 64 * k → (test i && has_bit words i) ≡ false) → (i : ℕ) → (test i && has_bit words i) ≡ false
none_after words k test end none i =
    ⊎_elim (λ (below : i < 64 * k). none i below)
    (λ (le : 64 * k ≤ i). and_right (test i) (has_bit words i) (past words i (omega arith))) (cases_lt i (64 * k))

-- ---- up to the last one

pub past_words : (words : List ℕ) (n : ℕ) → length words ≤ n → (i : ℕ) → 64 * n ≤ i → has_bit words i ≡ false
past_words words n h i le = past words i (omega arith)

pub no_end : (p : ℕ → Bool) → ((i : ℕ) → p i ≡ false) → IsEndOf p 0
no_end p none = record {
  below = λ i holds. absurd (true≢false (sym holds ∙ none i));
  last = λ h. absurd (omega arith);
}
