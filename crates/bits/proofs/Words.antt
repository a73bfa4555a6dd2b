-- Words that are changed, one or one after the other.
use Rattle.std.proofs.Common.{◌≡◌, ℕ, ◌+◌, ◌*◌, ◌/◌, ◌%◌, ◌^◌, ◌<◌, ◌≤◌, Bool, true, false, List, length, get_or, refl, sym, ap, ap₂, ◌∙◌, subst, arith, w64, bit_and, bit_or, min, ◌⊎◌, inl, inr, ⊎_elim}
use Rattle.std.specs.Prelude.{slice_set, not, ◌||◌, ◌&&◌, ◌==◌, nat_le, nat_lt}
use Rattle.std.specs.Int.{bit_at, bit_not}
use Rattle.std.proofs.lemmas.Bool.{cases_eq, cases_lt, eq-eqb, ne_eqb, lt-ltb, le-ltb, lt-leb, le-leb, and_left, and_right}
use Rattle.std.proofs.lemmas.List.{length-set, get_or-set_same, get_or-set_other, get_or_past}
use Rattle.std.proofs.lemmas.Nat.Bits.{bit_at-zero, bit_at_set_same, bit_at_set_other, bit_at_clear_same, bit_at_clear_other}
use Rattle.std.proofs.Math.Bool.{or-false, or-true}
use Rattle.bits.specs.Sets.{has_bit, is_from}
use Rattle.bits.proofs.Bits.{bits_or, bits_minus}

pub low : (i : ℕ) → i % 64 < 64
low i = omega arith

same_number : (i k : ℕ) → i / 64 ≡ k / 64 → i % 64 ≡ k % 64 → i ≡ k
same_number i k p q = omega arith

pub past : (words : List ℕ) (i : ℕ) → length words ≤ i / 64 → has_bit words i ≡ false
past words i h =
    ap (λ word. bit_at word (i % 64) == 1) (get_or_past words (i / 64) 0 h)
    ∙ ap (λ n. n == 1) (bit_at-zero (i % 64))

-- no bit is set past the room
pub within_room : (words : List ℕ) (n i : ℕ) → 64 * length words ≤ n → (nat_lt i n && has_bit words i) ≡ has_bit words i
within_room words n i le = ⊎_elim (λ (lt : i < n). ap (λ b. b && has_bit words i) (lt-ltb i n lt))
    (λ (above : n ≤ i). ap (λ b. b && has_bit words i) (le-ltb i n above) ∙ sym (past words i (omega arith)))
    (cases_lt i n)

-- one word is changed: its bits, and all others
pub changed_here : (words : List ℕ) (w v i : ℕ) → w < length words → i / 64 ≡ w →
    has_bit (slice_set words w v) i ≡ (bit_at v (i % 64) == 1)
changed_here words w v i lt e =
    ap (λ m. bit_at (get_or (slice_set words w v) m 0) (i % 64) == 1) e
    ∙ ap (λ word. bit_at word (i % 64) == 1) (get_or-set_same words w v 0 lt)

pub changed_there : (words : List ℕ) (w v i : ℕ) → (i / 64 ≡ w → ⊥) → has_bit (slice_set words w v) i ≡ has_bit words i
changed_there words w v i ne = ap (λ word. bit_at word (i % 64) == 1) (get_or-set_other words w (i / 64) v 0 ne)

module _ (words : List ℕ) (i word : ℕ) (lt : i / 64 < length words) (is : word ≡ get_or words (i / 64) 0) where
  at_same_word : (k : ℕ) → k / 64 ≡ i / 64 → (bit_at word (k % 64) == 1) ≡ has_bit words k
  at_same_word k e =
      ap (λ n. bit_at n (k % 64) == 1) is ∙ ap (λ m. bit_at (get_or words m 0) (k % 64) == 1) (sym e)

  -- setting a bit
  pub bit_set : (k : ℕ) →
      has_bit (slice_set words (i / 64) (bit_or word (1 * 2 ^ (i % 64) % 2 ^ 64))) k ≡ (has_bit words k || (i == k))
  bit_set k = ⊎_elim same_word other_word (cases_eq (k / 64) (i / 64))
    where
      same_word : k / 64 ≡ i / 64 → has_bit (slice_set words (i / 64) (bit_or word (1 * 2 ^ (i % 64) % 2 ^ 64))) k ≡
          (has_bit words k || (i == k))
      same_word e =
          changed_here words (i / 64) (bit_or word (1 * 2 ^ (i % 64) % 2 ^ 64)) k lt e
          ∙ ⊎_elim here there (cases_eq (k % 64) (i % 64))
        where
          here : k % 64 ≡ i % 64 → (bit_at (bit_or word (1 * 2 ^ (i % 64) % 2 ^ 64)) (k % 64) == 1) ≡
              (has_bit words k || (i == k))
          here q =
              ap (λ b. bit_at (bit_or word (1 * 2 ^ (i % 64) % 2 ^ 64)) b == 1) q
              ∙ ap (λ n. n == 1) (bit_at_set_same w64 word (i % 64) (low i))
              ∙ sym (ap (λ b. has_bit words k || b) (eq-eqb i k (same_number i k (sym e) (sym q))) ∙ or-true
              (has_bit words k))

          there : (k % 64 ≡ i % 64 → ⊥) → (bit_at (bit_or word (1 * 2 ^ (i % 64) % 2 ^ 64)) (k % 64) == 1) ≡
              (has_bit words k || (i == k))
          there ne =
              ap (λ n. n == 1) (bit_at_set_other w64 word (i % 64) (low i) (k % 64) ne)
              ∙ at_same_word k e
              ∙ sym (ap (λ b. has_bit words k || b) (ne_eqb i k (λ q. ne (ap (λ n. n % 64) (sym q)))) ∙ or-false
              (has_bit words k))

      other_word : (k / 64 ≡ i / 64 → ⊥) → has_bit
          (slice_set words (i / 64) (bit_or word (1 * 2 ^ (i % 64) % 2 ^ 64))) k ≡ (has_bit words k || (i == k))
      other_word ne =
          changed_there words (i / 64) (bit_or word (1 * 2 ^ (i % 64) % 2 ^ 64)) k ne
          ∙ sym (ap (λ b. has_bit words k || b) (ne_eqb i k (λ q. ne (ap (λ n. n / 64) (sym q)))) ∙ or-false
          (has_bit words k))

  -- clearing a bit
  pub bit_cleared : (k : ℕ) →
      has_bit (slice_set words (i / 64) (bit_and word (bit_not w64 (1 * 2 ^ (i % 64) % 2 ^ 64)))) k ≡
      (not (i == k) && has_bit words k)
  bit_cleared k = ⊎_elim same_word other_word (cases_eq (k / 64) (i / 64))
    where
      same_word : k / 64 ≡ i / 64 → has_bit (slice_set words (i / 64) (bit_and word (bit_not w64
          (1 * 2 ^ (i % 64) % 2 ^ 64)))) k ≡ (not (i == k) && has_bit words k)
      same_word e =
          changed_here words (i / 64) (bit_and word (bit_not w64 (1 * 2 ^ (i % 64) % 2 ^ 64))) k lt e
          ∙ ⊎_elim here there (cases_eq (k % 64) (i % 64))
        where
          here : k % 64 ≡ i % 64 → (bit_at (bit_and word (bit_not w64 (1 * 2 ^ (i % 64) % 2 ^ 64))) (k % 64) == 1) ≡
              (not (i == k) && has_bit words k)
          here q =
              ap (λ b. bit_at (bit_and word (bit_not w64 (1 * 2 ^ (i % 64) % 2 ^ 64))) b == 1) q
              ∙ ap (λ n. n == 1) (bit_at_clear_same w64 word (i % 64) (low i))
              ∙ sym (ap (λ b. not b && has_bit words k) (eq-eqb i k (same_number i k (sym e) (sym q))))

          there : (k % 64 ≡ i % 64 → ⊥) → (bit_at (bit_and word (bit_not w64 (1 * 2 ^ (i % 64) % 2 ^ 64))) (k % 64) == 1)
              ≡ (not (i == k) && has_bit words k)
          there ne =
              ap (λ n. n == 1) (bit_at_clear_other w64 word (i % 64) (low i) (k % 64) (low k) ne)
              ∙ at_same_word k e
              ∙ sym (ap (λ b. not b && has_bit words k) (ne_eqb i k (λ q. ne (ap (λ n. n % 64) (sym q)))))

      other_word : (k / 64 ≡ i / 64 → ⊥) → has_bit (slice_set words (i / 64) (bit_and word (bit_not w64
          (1 * 2 ^ (i % 64) % 2 ^ 64)))) k ≡ (not (i == k) && has_bit words k)
      other_word ne =
          changed_there words (i / 64) (bit_and word (bit_not w64 (1 * 2 ^ (i % 64) % 2 ^ 64))) k ne
          ∙ sym (ap (λ b. not b && has_bit words k) (ne_eqb i k (λ q. ne (ap (λ n. n / 64) (sym q)))))

-- ---- word by word

-- the words from the first up to k are what is made of them and another's, the others are as they were
pub record Changed (made : ℕ → ℕ → ℕ) (old other : List ℕ) (first k : ℕ) (new : List ℕ) : Type 0 where
  pub same : length new ≡ length old
  pub within : first < k → k ≤ length old
  pub between : (w : ℕ) → first ≤ w → w < k → get_or new w 0 ≡ made (get_or old w 0) (get_or other w 0)
  pub kept : (w : ℕ) → (w < first) ⊎ (k ≤ w) → get_or new w 0 ≡ get_or old w 0
  pub fits : (w : ℕ) → first ≤ w → w < k → get_or other w 0 < 2 ^ 64

pub none_changed : (made : ℕ → ℕ → ℕ) (old other : List ℕ) (first k : ℕ) → k ≡ first → Changed made old other first k old
none_changed made old other first k begins = record {
  same = refl;
  within = λ h. absurd (omega arith);
  between = λ w le lt. absurd (omega arith);
  kept = λ w h. refl;
  fits = λ w le lt. absurd (omega arith);
}

pub one_changed : (made : ℕ → ℕ → ℕ) (old other new next : List ℕ) (first k a b : ℕ) → Changed made old other first k new →
    first ≤ k → k < length new → a ≡ get_or new k 0 → b ≡ get_or other k 0 → b < 2 ^ 64 →
    next ≡ slice_set new k (made a b) → Changed made old other first (k + 1) next
one_changed made old other new next first k a b h begun lt is_a is_b fit is_next =
    subst (Changed made old other first (k + 1)) (sym is_next) (record {
      same = length-set new k (made a b) ∙ h.same;
      within = λ begun'. let same : length new ≡ length old = h.same in omega arith;
      between = λ w le lt'. ⊎_elim (here w) (λ differs. get_or-set_other new k w (made a b) 0 differs ∙ h.between w le (omega arith))
          (cases_eq w k);
      kept = λ w out. get_or-set_other new k w (made a b) 0 (apart w out) ∙ h.kept w (outside w out);
      fits = λ w le lt'. ⊎_elim (λ e. subst (λ n. n < 2 ^ 64) (is_b ∙ ap (λ m. get_or other m 0) (sym e)) fit)
          (λ differs. h.fits w le (omega arith)) (cases_eq w k);
    })
  where
    here : (w : ℕ) → w ≡ k → get_or (slice_set new k (made a b)) w 0 ≡ made (get_or old w 0) (get_or other w 0)
    here w e = subst (λ m. get_or (slice_set new k (made a b)) m 0 ≡ made (get_or old m 0) (get_or other m 0)) (sym e)
        (get_or-set_same new k (made a b) 0 lt ∙ ap₂ made (is_a ∙ h.kept k (inr (omega arith))) is_b)

    apart : (w : ℕ) → (w < first) ⊎ (k + 1 ≤ w) → w ≡ k → ⊥
    apart w out e = ⊎_elim (λ (low : w < first). absurd (omega arith)) (λ (high : k + 1 ≤ w). absurd (omega arith)) out

    outside : (w : ℕ) → (w < first) ⊎ (k + 1 ≤ w) → (w < first) ⊎ (k ≤ w)
    outside w out = ⊎_elim (λ (low : w < first). inl low) (λ (high : k + 1 ≤ w). inr (omega arith)) out

module _ (made : ℕ → ℕ → ℕ) (old other new : List ℕ) (first k : ℕ) (h : Changed made old other first k new) where
  made_from : (i : ℕ) → first ≤ i / 64 → i / 64 < k →
      has_bit new i ≡ (bit_at (made (get_or old (i / 64) 0) (get_or other (i / 64) 0)) (i % 64) == 1)
  made_from i le lt = ap (λ word. bit_at word (i % 64) == 1) (h.between (i / 64) le lt)

  kept_bit : (i : ℕ) → (i / 64 < first) ⊎ (k ≤ i / 64) → has_bit new i ≡ has_bit old i
  kept_bit i out = ap (λ word. bit_at word (i % 64) == 1) (h.kept (i / 64) out)

-- a loop up to the lesser of two lengths has come to the end of one of the two
pub end_reached : (k m n : ℕ) → min m n ≤ k → (m ≤ k) ⊎ (n ≤ k)
end_reached k m n h = ⊎_elim (λ (lt : m < n). inl (omega arith)) (λ (le : n ≤ m). inr (omega arith)) (cases_lt m n)

in_words : (first end i : ℕ) → first ≤ i / 64 → i / 64 < end → is_from (64 * first) (64 * end) i ≡ true
in_words first end i le lt =
    ap₂ (λ a b. a && b) (le-leb (64 * first) i (omega arith)) (lt-ltb i (64 * end) (omega arith))

below_words : (first end i : ℕ) → i / 64 < first → is_from (64 * first) (64 * end) i ≡ false
below_words first end i lt = and_left (nat_le (64 * first) i) (nat_lt i (64 * end)) (lt-leb (64 * first) i (omega arith))

past_words : (first end i : ℕ) → end ≤ i / 64 → is_from (64 * first) (64 * end) i ≡ false
past_words first end i le = and_right (nat_le (64 * first) i) (nat_lt i (64 * end)) (le-ltb i (64 * end) (omega arith))

-- the words from the first up to the end are joined
pub united : (old other new : List ℕ) (first end k : ℕ) → Changed bit_or old other first k new →
    end ≤ k → (first ≤ end → k ≤ end) → (end < first → k ≤ first) →
    (i : ℕ) → has_bit new i ≡ (has_bit old i || (is_from (64 * first) (64 * end) i && has_bit other i))
united old other new first end k h done up none i = ⊎_elim before from (cases_lt (i / 64) first)
  where
    nothing : (b : Bool) → b ≡ false → has_bit old i ≡ (has_bit old i || (b && has_bit other i))
    nothing b e = sym (ap (λ c. has_bit old i || (c && has_bit other i)) e ∙ or-false (has_bit old i))

    before : i / 64 < first → has_bit new i ≡ (has_bit old i || (is_from (64 * first) (64 * end) i && has_bit other i))
    before lt = kept_bit bit_or old other new first k h i (inl lt) ∙ nothing (is_from (64 * first) (64 * end) i) (below_words first end i lt)

    joined : first ≤ i / 64 → i / 64 < end →
        has_bit new i ≡ (has_bit old i || (is_from (64 * first) (64 * end) i && has_bit other i))
    joined le lt =
        made_from bit_or old other new first k h i le (omega arith)
        ∙ bits_or (get_or old (i / 64) 0) (get_or other (i / 64) 0) (i % 64)
        ∙ sym (ap (λ b. has_bit old i || (b && has_bit other i)) (in_words first end i le lt))

    above : first ≤ i / 64 → end ≤ i / 64 → has_bit new i ≡ (has_bit old i || (is_from (64 * first) (64 * end) i && has_bit other i))
    above low le =
        kept_bit bit_or old other new first k h i (inr (⊎_elim (λ (lt : end < first). let top : k ≤ first = none lt in omega arith)
        (λ (ge : first ≤ end). let top : k ≤ end = up ge in omega arith) (cases_lt end first)))
        ∙ nothing (is_from (64 * first) (64 * end) i) (past_words first end i le)

    from : first ≤ i / 64 → has_bit new i ≡ (has_bit old i || (is_from (64 * first) (64 * end) i && has_bit other i))
    from low = ⊎_elim (joined low) (above low) (cases_lt (i / 64) end)

-- of the words that both have; the other has no bits in those before the first
pub of_both : (other : List ℕ) (first n i : ℕ) → ((j : ℕ) → j < 64 * first → has_bit other j ≡ false) →
    (is_from (64 * first) (64 * min n (length other)) i && has_bit other i) ≡ (nat_lt i (64 * n) && has_bit other i)
of_both other first n i none = by_bit (has_bit other i) refl
  where
    off : (b : Bool) → (b && false) ≡ false
    off b = and_right b false refl

    by_bit : (b : Bool) → has_bit other i ≡ b →
        (is_from (64 * first) (64 * min n (length other)) i && has_bit other i) ≡ (nat_lt i (64 * n) && has_bit other i)
    by_bit false e =
        ap (λ b. is_from (64 * first) (64 * min n (length other)) i && b) e ∙ off (is_from (64 * first) (64 * min n (length other)) i)
        ∙ sym (ap (λ b. nat_lt i (64 * n) && b) e ∙ off (nat_lt i (64 * n)))
    by_bit true e = ap (λ b. b && has_bit other i) (same (cases_lt i (64 * n)))
      where
        low' : 64 * first ≤ i
        low' = ⊎_elim (λ (lt : i < 64 * first). absurd (let bad : true ≡ false = sym e ∙ none i lt in cc)) (λ (le : 64 * first ≤ i). le)
            (cases_lt i (64 * first))

        inside : i / 64 < length other
        inside = ⊎_elim (λ (lt : i / 64 < length other). lt)
            (λ (le : length other ≤ i / 64). absurd (let bad : true ≡ false = sym e ∙ past other i le in cc)) (cases_lt (i / 64) (length other))

        same : (i < 64 * n) ⊎ (64 * n ≤ i) → is_from (64 * first) (64 * min n (length other)) i ≡ nat_lt i (64 * n)
        same (inl lt) = in_words first (min n (length other)) i (omega (arith, low')) (omega (arith, inside, lt)) ∙ sym (lt-ltb i (64 * n) lt)
        same (inr le) = past_words first (min n (length other)) i (omega (arith, le)) ∙ sym (le-ltb i (64 * n) le)

-- of all words in which the other has bits
pub of_all : (p : ℕ → Bool) (first end i : ℕ) → ((j : ℕ) → j < first → p j ≡ false) → ((j : ℕ) → p j ≡ true → j < end) →
    (is_from (64 * (first / 64)) (64 * (end / 64 + min 1 (end % 64))) i && p i) ≡ p i
of_all p first end i none below = by_bit (p i) refl
  where
    by_bit : (b : Bool) → p i ≡ b → (is_from (64 * (first / 64)) (64 * (end / 64 + min 1 (end % 64))) i && p i) ≡ p i
    by_bit false e = and_right (is_from (64 * (first / 64)) (64 * (end / 64 + min 1 (end % 64))) i) (p i) e ∙ sym e
    by_bit true e =
        let low' : first ≤ i = ⊎_elim (λ (lt : i < first). absurd (let bad : true ≡ false = sym e ∙ none i lt in cc))
        (λ (le : first ≤ i). le) (cases_lt i first) in
        let high : i < end = below i e in
        ap (λ b. b && p i) (in_words (first / 64) (end / 64 + min 1 (end % 64)) i (omega arith) (omega arith))

abbrev pub minus : ℕ → ℕ → ℕ
minus a b = bit_and a (bit_not w64 b)

-- all words that both have are cut; one of the two has no bits in those before
pub rest_left : (old other new : List ℕ) (first k : ℕ) → Changed minus old other first k new →
    ((i : ℕ) → i < 64 * first → (has_bit old i && has_bit other i) ≡ false) → (length old ≤ k) ⊎ (length other ≤ k) →
    (i : ℕ) → has_bit new i ≡ (not (has_bit other i) && has_bit old i)
rest_left old other new first k h none end i = ⊎_elim before from (cases_lt (i / 64) first)
  where
    apart : (b c : Bool) → (c && b) ≡ false → c ≡ (not b && c)
    apart true true e = e
    apart true false e = refl
    apart false c e = refl

    before : i / 64 < first → has_bit new i ≡ (not (has_bit other i) && has_bit old i)
    before lt = kept_bit minus old other new first k h i (inl lt) ∙ apart (has_bit other i) (has_bit old i) (none i (omega arith))

    made : first ≤ i / 64 → i / 64 < k → has_bit new i ≡ (not (has_bit other i) && has_bit old i)
    made le lt =
        made_from minus old other new first k h i le lt
        ∙ bits_minus (get_or old (i / 64) 0) (get_or other (i / 64) 0) (i % 64) (h.fits (i / 64) le lt) (low i)

    above : k ≤ i / 64 → has_bit new i ≡ (not (has_bit other i) && has_bit old i)
    above le =
        kept_bit minus old other new first k h i (inr le)
        ∙ apart (has_bit other i) (has_bit old i) (⊎_elim
        (λ (all : length old ≤ k). ap (λ b. b && has_bit other i) (past old i (omega arith)))
        (λ (all : length other ≤ k). and_right (has_bit old i) (has_bit other i) (past other i (omega arith))) end)

    from : first ≤ i / 64 → has_bit new i ≡ (not (has_bit other i) && has_bit old i)
    from le = ⊎_elim (made le) above (cases_lt (i / 64) k)
