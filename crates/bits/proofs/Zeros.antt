-- The words that are kept, and the zeros that stand before them.
use Rattle.std.proofs.Common.{◌≡◌, ℕ, ◌+◌, ◌-◌, ◌*◌, ◌/◌, ◌%◌, ◌<◌, ◌≤◌, max, Bool, false, List, ◌++◌, length, get_or, refl, sym, ap, ◌∙◌, arith, ⊎_elim}
use Rattle.std.specs.Prelude.{replicate, take, ◌&&◌, ◌==◌}
use Rattle.std.specs.Int.{bit_at}
use Rattle.std.proofs.lemmas.Bool.{cases_lt, and_right}
use Rattle.std.proofs.lemmas.List.{length-append, length-replicate, get_or-replicate, get_or_append_left, get_or-append_right, get_or_past, take_all}
use Rattle.std.proofs.lemmas.Nat.Bits.{bit_at-zero}
use Rattle.bits.specs.declared.set.BitSet.{BitSet}
use Rattle.bits.specs.Sets.{all_words, has, has_bit}

length_before : (n : ℕ) (kept : List ℕ) → length (replicate n 0 ++ kept) ≡ n + length kept
length_before n kept = length-append (replicate n 0) kept ∙ ap (λ m. m + length kept) (length-replicate {A = ℕ} n 0)

-- a word that is not kept
pub word_before : (n : ℕ) (kept : List ℕ) (k : ℕ) → k < n → get_or (replicate n 0 ++ kept) k 0 ≡ 0
word_before n kept k lt =
    let inside : k < length (replicate n 0) = omega (arith, length-replicate {A = ℕ} n 0) in
    get_or_append_left (replicate n 0) kept 0 k inside ∙ get_or-replicate n k 0 0 lt

-- a word that is
pub word_kept : (n : ℕ) (kept : List ℕ) (k : ℕ) → n ≤ k → get_or (replicate n 0 ++ kept) k 0 ≡ get_or kept (k - n) 0
word_kept n kept k le = get_or-append_right (replicate n 0) kept n k 0 (length-replicate {A = ℕ} n 0) le

-- ---- lists of words that have the same bits

pub same_bits : (old new : List ℕ) → ((k : ℕ) → get_or new k 0 ≡ get_or old k 0) → (i : ℕ) → has_bit new i ≡ has_bit old i
same_bits old new same i = ap (λ word. bit_at word (i % 64) == 1) (same (i / 64))

-- zeros after them
pub resized : (n m len : ℕ) (kept more : List ℕ) → len ≡ length kept → len ≤ m → more ≡ take m kept ++ replicate (m - len) 0 →
    (i : ℕ) → has_bit (replicate n 0 ++ more) i ≡ has_bit (replicate n 0 ++ kept) i
resized n m len kept more is_len le is = same_bits (replicate n 0 ++ kept) (replicate n 0 ++ more)
    (λ k. ⊎_elim (λ (lt : k < n). word_before n more k lt ∙ sym (word_before n kept k lt))
    (λ (from : n ≤ k). word_kept n more k from ∙ same_word (k - n) ∙ sym (word_kept n kept k from)) (cases_lt k n))
  where
    zeros : List ℕ
    zeros = replicate (m - len) 0

    all : length zeros ≡ m - len
    all = length-replicate {A = ℕ} (m - len) 0

    is' : more ≡ kept ++ zeros
    is' = is ∙ ap (λ words. words ++ zeros) (take_all m kept (omega arith))

    past_kept : (k : ℕ) → length kept ≤ k → get_or (kept ++ zeros) k 0 ≡ 0
    past_kept k from = ⊎_elim
        (λ (lt : k - length kept < m - len). get_or-append_right kept zeros (length kept) k 0 refl from
        ∙ get_or-replicate (m - len) (k - length kept) 0 0 lt)
        (λ (over : m - len ≤ k - length kept). get_or_past (kept ++ zeros) k 0
        (omega (arith, length-append kept zeros, all)))
        (cases_lt (k - length kept) (m - len))

    same_word : (k : ℕ) → get_or more k 0 ≡ get_or kept k 0
    same_word k = ap (λ words. get_or words k 0) is' ∙ ⊎_elim (λ (lt : k < length kept). get_or_append_left kept zeros 0 k lt)
        (λ (from : length kept ≤ k). past_kept k from ∙ sym (get_or_past kept k 0 from)) (cases_lt k (length kept))

-- ---- the words of a set

pub length_all : (s : BitSet) → length (all_words s) ≡ s.skipped + length s.words.items
unfolding all_words
length_all s = length_before s.skipped s.words.items

-- no number below the start is in it
pub below_start : (s : BitSet) (i : ℕ) → i < 64 * s.skipped → has s i ≡ false
unfolding all_words
below_start s i lt =
    ap (λ word. bit_at word (i % 64) == 1) (word_before s.skipped s.words.items (i / 64) (omega arith))
    ∙ ap (λ n. n == 1) (bit_at-zero (i % 64))

pub none_before : (s : BitSet) (other : Bool) (i : ℕ) → i < 64 * s.skipped → (has s i && other) ≡ false
none_before s other i lt = ap (λ b. b && other) (below_start s i lt)

pub none_common_before : (s t : BitSet) (i : ℕ) → i < 64 * max s.skipped t.skipped → (has s i && has t i) ≡ false
none_common_before s t i lt = ⊎_elim (none_before s (has t i) i)
    (λ (le : 64 * s.skipped ≤ i). and_right (has s i) (has t i) (below_start t i (omega arith))) (cases_lt i (64 * s.skipped))
