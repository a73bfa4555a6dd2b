-- Members from one number up to another, set one by one or by whole words.
use Rattle.std.proofs.Common.{◌≡◌, ℕ, ◌+◌, ◌-◌, ◌*◌, ◌/◌, ◌%◌, ◌^◌, ◌<◌, ◌≤◌, max, Bool, true, false, List, length, sym, ap, ◌∙◌, arith, w64, ◌⊎◌, inl, inr, ⊎_elim}
use Rattle.std.specs.Prelude.{slice_set, ◌==◌, ◌↔◌, nat_le, if◌then◌else◌}
use Rattle.std.specs.Int.{bit_at, trailing_ones}
use Rattle.std.proofs.lemmas.Bool.{cases_eq, cases_lt, eq-eqb, ne_eqb, leb-true, le-leb, true≢false}
use Rattle.std.proofs.lemmas.Bool.Decides.{nat_tests}
use Rattle.std.proofs.lemmas.Nat.Bits.{bit_at-zero, bit_at_ones, bit_at-trailing_ones}
use Rattle.bits.specs.Sets.{has_bit, is_from}
use Rattle.bits.proofs.Words.{changed_here, changed_there, past, low}

-- from the first up to i as f says, the others as before
abbrev pub spanned : (ℕ → Bool) → (ℕ → Bool) → ℕ → ℕ → ℕ → Bool
spanned f before first i k = if is_from first i k then f k else before k

none_yet : (first k : ℕ) → is_from first first k ≡ false
none_yet first k = grind (arith, nat_tests)

pub span_starts : (f before : ℕ → Bool) (first k : ℕ) → before k ≡ spanned f before first first k
span_starts f before first k = sym (ap (λ b. if b then f k else before k) (none_yet first k))

reached : (first i k n : ℕ) → first ≤ i → i ≤ k → k < n → is_from first n k ≡ true
reached first i k n low le lt = grind (arith, nat_tests)

same_below : (first i k n : ℕ) → i ≤ n → (k < i) ⊎ (n ≤ k) → is_from first n k ≡ is_from first i k
same_below first i k n le where' = ⊎_elim (λ (lt : k < i). below lt) (λ (above : n ≤ k). over above) where'
  where
    below : k < i → is_from first n k ≡ is_from first i k
    below lt = grind (arith, nat_tests)

    over : n ≤ k → is_from first n k ≡ is_from first i k
    over above = grind (arith, nat_tests)

module _ (f before : ℕ → Bool) (first i : ℕ) (low : first ≤ i) where
  -- one number more
  pub one_more : (now new : ℕ → Bool) → ((k : ℕ) → new k ≡ (if i == k then f i else now k)) →
      ((k : ℕ) → now k ≡ spanned f before first i k) → (k : ℕ) → new k ≡ spanned f before first (i + 1) k
  one_more now new is h k = is k ∙ ⊎_elim here there (cases_eq i k)
    where
      here : i ≡ k → (if i == k then f i else now k) ≡ spanned f before first (i + 1) k
      here e =
          ap (λ b. if b then f i else now k) (eq-eqb i k e)
          ∙ ap f e ∙ sym (ap (λ b. if b then f k else before k) (reached first i k (i + 1) low (omega arith) (omega arith)))

      there : (i ≡ k → ⊥) → (if i == k then f i else now k) ≡ spanned f before first (i + 1) k
      there ne =
          ap (λ b. if b then f i else now k) (ne_eqb i k ne)
          ∙ h k ∙ sym (ap (λ b. if b then f k else before k) (same_below first i k (i + 1) (omega arith)
          (⊎_elim (λ (lt : k < i). inl lt) (λ (le : i ≤ k). inr (omega arith)) (cases_lt k i))))

  -- one word more
  pub one_word_more : (words next : List ℕ) (word : ℕ) → next ≡ slice_set words (i / 64) word →
      i % 64 ≡ 0 → i / 64 < length words →
      ((k : ℕ) → k / 64 ≡ i / 64 → (bit_at word (k % 64) == 1) ≡ f k) →
      ((k : ℕ) → has_bit words k ≡ spanned f before first i k) →
      (k : ℕ) → has_bit next k ≡ spanned f before first (i + 64) k
  one_word_more words next word is_next whole lt is h k =
      ap (λ words. has_bit words k) is_next ∙ ⊎_elim here there (cases_eq (k / 64) (i / 64))
    where
      here : k / 64 ≡ i / 64 → has_bit (slice_set words (i / 64) word) k ≡ spanned f before first (i + 64) k
      here e =
          changed_here words (i / 64) word k lt e
          ∙ is k e
          ∙ sym (ap (λ b. if b then f k else before k) (reached first i k (i + 64) low (omega arith) (omega arith)))

      there : (k / 64 ≡ i / 64 → ⊥) → has_bit (slice_set words (i / 64) word) k ≡ spanned f before first (i + 64) k
      there ne =
          changed_there words (i / 64) word k ne
          ∙ h k
          ∙ sym (ap (λ b. if b then f k else before k) (same_below first i k (i + 64) (omega arith)
          (⊎_elim (λ (below : k < i). inl below) (λ (le : i ≤ k). inr (past_word le ne)) (cases_lt k i))))
        where
          past_word : i ≤ k → (k / 64 ≡ i / 64 → ⊥) → i + 64 ≤ k
          past_word le ne = omega arith

whole_span : (first i end k : ℕ) → end ≤ i → i ≤ max first end → is_from first i k ≡ is_from first end k
whole_span first i end k done up = grind (arith, nat_tests)

pub span_ends : (f before now : ℕ → Bool) (first i end : ℕ) → end ≤ i → i ≤ max first end →
    ((k : ℕ) → now k ≡ spanned f before first i k) → (k : ℕ) → now k ≡ spanned f before first end k
span_ends f before now first i end done up h k = h k ∙ ap (λ b. if b then f k else before k) (whole_span first i end k done up)

-- the bits of a word of ones, and of one of zeros
pub bits_of_word : (on : Bool) (word k : ℕ) → word ≡ (if on then 2 ^ 64 - 1 else 0) → (bit_at word (k % 64) == 1) ≡ on
bits_of_word true word k e =
    ap (λ n. bit_at n (k % 64) == 1) e ∙ ap (λ n. n == 1) (bit_at_ones 64 (k % 64) (low k))
bits_of_word false word k e = ap (λ n. bit_at n (k % 64) == 1) e ∙ ap (λ n. n == 1) (bit_at-zero (k % 64))

-- ---- the least number that is missing

pub up_to_missing : (p : ℕ → Bool) (n count : ℕ) → ((i : ℕ) → i < n → p i ≡ true) → p n ≡ false →
    (nat_le count n ≡ true) ↔ ((i : ℕ) → i < count → p i ≡ true)
up_to_missing p n count all none = (forth, back)
  where
    forth : nat_le count n ≡ true → (i : ℕ) → i < count → p i ≡ true
    forth le i lt = let m : count ≤ n = leb-true count n le in all i (omega arith)

    back : ((i : ℕ) → i < count → p i ≡ true) → nat_le count n ≡ true
    back h = ⊎_elim (λ (lt : n < count). absurd (true≢false (sym (h n lt) ∙ none)))
        (λ (le : count ≤ n). le-leb count n le) (cases_lt n count)

module _ (p : ℕ → Bool) (k word : ℕ) (is : (i : ℕ) → i / 64 ≡ k → p i ≡ (bit_at word (i % 64) == 1))
    (all : (i : ℕ) → i < 64 * k → p i ≡ true) where
  pub all_more : word ≡ 2 ^ 64 - 1 → (i : ℕ) → i < 64 * (k + 1) → p i ≡ true
  all_more e i lt = ⊎_elim (λ (below : i < 64 * k). all i below)
      (λ (le : 64 * k ≤ i). is i (omega arith) ∙ bits_of_word true word i e) (cases_lt i (64 * k))

  pub missing_here : word + 1 < 2 ^ 64 → (count : ℕ) →
      (nat_le count (64 * k + trailing_ones w64 word) ≡ true) ↔ ((i : ℕ) → i < count → p i ≡ true)
  missing_here fits count = up_to_missing p (64 * k + trailing_ones w64 word) count below here
    where
      t : (trailing_ones w64 word < 64) × (bit_at word (trailing_ones w64 word) ≡ 0) × ((i : ℕ) → i < trailing_ones w64 word → bit_at word i ≡ 1)
      t = bit_at-trailing_ones w64 word fits

      below : (i : ℕ) → i < 64 * k + trailing_ones w64 word → p i ≡ true
      below i lt =
          let inside : trailing_ones w64 word < 64 = t.0 in
          ⊎_elim (λ (low : i < 64 * k). all i low)
          (λ (le : 64 * k ≤ i). is i (omega arith) ∙ ap (λ n. n == 1) (t.2 (i % 64) (omega arith))) (cases_lt i (64 * k))

      here : p (64 * k + trailing_ones w64 word) ≡ false
      here =
          let inside : trailing_ones w64 word < 64 = t.0 in
          let r : (64 * k + trailing_ones w64 word) % 64 ≡ trailing_ones w64 word = omega arith in
          is (64 * k + trailing_ones w64 word) (omega arith) ∙ ap (λ b. bit_at word b == 1) r ∙ ap (λ n. n == 1) t.1

pub missing_past : (words : List ℕ) (n count : ℕ) → n ≡ 64 * length words →
    ((i : ℕ) → i < n → has_bit words i ≡ true) →
    (nat_le count n ≡ true) ↔ ((i : ℕ) → i < count → has_bit words i ≡ true)
missing_past words n count e all = up_to_missing (has_bit words) n count all (past words n (omega arith))
