-- Values of loops between a least and a greatest one, and what is known of expressions with them.
use Rattle.std.proofs.Common.{◌≡◌, ℕ, zero, suc, ◌+◌, ◌-◌, ◌<◌, ◌≤◌, min, true, List, [], ◌∷◌, ◌++◌, refl, sym, ap, ◌∙◌, ⊎_elim, arith, length, length-append}
use Rattle.std.specs.Prelude.{◌&&◌, slice_index}
use Rattle.std.proofs.lemmas.Bool.{and_parts, cases_lt, cond_both}
use Rattle.std.proofs.lemmas.Bool.Decides.{nat_tests}
use Rattle.std.proofs.lemmas.List.{get_or_append_left, get_or-append_right}
use Rattle.std.proofs.lemmas.Nat.{and_le_l, and_le_r}
use Rattle.base.specs.declared.tree.BinaryOp.TheVariants.{BitAnd}
use Rattle.base.specs.declared.fault.Interval.{Interval}
use Rattle.base.specs.Value.{binary}
use Rattle.base.specs.Interval.{exactly, from_to, interval_binary, is_single}
use Rattle.ranges.specs.Spans.{AreBetween, IsPart}

one_at : (a b : ℕ) → a ≤ b → (j : ℕ) → slice_index (a ∷ []) j ≤ slice_index (b ∷ []) j
one_at a b h zero = h
one_at a b h (suc j) = omega arith

at_last : (xs ys : List ℕ) (a b k : ℕ) → length xs ≡ length ys → a ≤ b → ((j : ℕ) → slice_index xs j ≤ slice_index ys j) →
    slice_index (xs ++ a ∷ []) k ≤ slice_index (ys ++ b ∷ []) k
at_last xs ys a b k e le h = ⊎_elim old new (cases_lt k (length xs))
  where
    old : k < length xs → slice_index (xs ++ a ∷ []) k ≤ slice_index (ys ++ b ∷ []) k
    old lt =
        let p : slice_index (xs ++ a ∷ []) k ≡ slice_index xs k = get_or_append_left xs (a ∷ []) 0 k lt in
        let q : slice_index (ys ++ b ∷ []) k ≡ slice_index ys k = get_or_append_left ys (b ∷ []) 0 k (omega (arith, lt, e)) in
        omega (arith, p, q, h k)

    new : length xs ≤ k → slice_index (xs ++ a ∷ []) k ≤ slice_index (ys ++ b ∷ []) k
    new past =
        let p : slice_index (xs ++ a ∷ []) k ≡ slice_index (a ∷ []) (k - length xs) =
        get_or-append_right xs (a ∷ []) (length xs) k 0 refl past in
        let q : slice_index (ys ++ b ∷ []) k ≡ slice_index (b ∷ []) (k - length xs) =
        get_or-append_right ys (b ∷ []) (length xs) k 0 (sym e) past in
        omega (arith, p, q, one_at a b le (k - length xs))

pub between_push : (lows highs loops : List ℕ) (lo hi v : ℕ) → AreBetween lows highs loops → lo ≤ v → v ≤ hi →
    AreBetween (lows ++ lo ∷ []) (highs ++ hi ∷ []) (loops ++ v ∷ [])
between_push lows highs loops lo hi v h low high = record {
  as_many = length-append lows (lo ∷ []) ∙ ap (λ n. n + 1) h.as_many ∙ sym (length-append loops (v ∷ []));
  as_many_highs = length-append highs (hi ∷ []) ∙ ap (λ n. n + 1) h.as_many_highs ∙ sym (length-append loops (v ∷ []));
  low = λ k. at_last lows loops lo v k h.as_many low h.low;
  high = λ k. at_last loops highs v hi k (sym h.as_many_highs) high h.high;
}

pub between_self : (loops : List ℕ) → AreBetween loops loops loops
between_self loops = record { as_many = refl; as_many_highs = refl; low = λ k. omega arith; high = λ k. omega arith }

-- ---- bits that both operands have

single_is : (x : Interval) → is_single x ≡ true → x.lo ≡ x.hi
single_is x e = grind (arith, nat_tests)

pub part_bits_left : (x y b : Interval) → IsPart x b → IsPart (interval_binary BitAnd x y) (from_to 0 b.hi)
part_bits_left x y b h =
    let p = and_le_l x.lo y.lo in
    let high = h.high in
    cond_both (is_single x && is_single y) (exactly (binary BitAnd x.lo y.lo)) (from_to 0 (min x.hi y.hi))
    (λ i. IsPart i (from_to 0 b.hi))
    (λ e. let s = single_is x (and_parts (is_single x) (is_single y) e).0 in record { low = omega arith; high = omega (arith, p, s, high) })
    (λ e. record { low = omega arith; high = omega (arith, high) })

pub part_bits_right : (x y b : Interval) → IsPart y b → IsPart (interval_binary BitAnd x y) (from_to 0 b.hi)
part_bits_right x y b h =
    let p = and_le_r x.lo y.lo in
    let high = h.high in
    cond_both (is_single x && is_single y) (exactly (binary BitAnd x.lo y.lo)) (from_to 0 (min x.hi y.hi))
    (λ i. IsPart i (from_to 0 b.hi))
    (λ e. let s = single_is y (and_parts (is_single x) (is_single y) e).1 in record { low = omega arith; high = omega (arith, p, s, high) })
    (λ e. record { low = omega arith; high = omega (arith, high) })
