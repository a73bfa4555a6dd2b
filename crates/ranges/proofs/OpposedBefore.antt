-- The cells that were touched before in ways which oppose another, way by way and touch by touch.
use Rattle.std.proofs.Common.{◌≡◌, ℕ, zero, suc, Bool, true, false, List, refl, sym, ap, ◌∙◌, ⊎_elim, arith}
use Rattle.std.specs.Prelude.{nat_lt, ◌&&◌, ◌||◌, ◌==◌}
use Rattle.std.specs.List.{list_any}
use Rattle.std.proofs.lemmas.Bool.{and_left, and_right, cases_eq, eq-eqb, ne_eqb}
use Rattle.std.proofs.lemmas.Bool.Decides.{nat_tests}
use Rattle.std.proofs.Math.Bool.{or-false}
use Rattle.base.specs.declared.item.Cell.{Cell}
use Rattle.base.specs.Footprint.{Touch, has_cell}
use Rattle.ranges.specs.Meetings.{touched_before}
use Rattle.ranges.specs.Ways.{kind_of, opposed, opposes, ways}
use Rattle.ranges.proofs.WayTests.{any_none, any_or, any_same, kind_few}

-- a touch in one of the first n ways, that opposes another way
abbrev below : ℕ → ℕ → Cell → Touch → Bool
below n way c s = (nat_lt (kind_of s) n && opposes (kind_of s) way) && has_cell c s

none_below : (k : ℕ) (x h : Bool) → ((nat_lt k 0 && x) && h) ≡ false
none_below k x h = let e : nat_lt k 0 ≡ false = grind (arith, nat_tests) in ap (λ (b : Bool). (b && x) && h) e

one_more : (k n way : ℕ) (h : Bool) →
    (((nat_lt k n && opposes k way) && h) || (opposes n way && ((k == n) && h))) ≡ ((nat_lt k (suc n) && opposes k way) && h)
one_more k n way h = ⊎_elim same apart (cases_eq k n)
  where
    whole : (x : Bool) → (((false && x) && h) || (x && (true && h))) ≡ ((true && x) && h)
    whole x = refl

    same : k ≡ n → (((nat_lt k n && opposes k way) && h) || (opposes n way && ((k == n) && h))) ≡ ((nat_lt k (suc n) && opposes k way) && h)
    same e =
        let a : nat_lt k n ≡ false = grind (arith, nat_tests, e) in
        let b : (k == n) ≡ true = eq-eqb k n e in
        let d : nat_lt k (suc n) ≡ true = grind (arith, nat_tests, e) in
        let o : opposes n way ≡ opposes k way = ap (λ m. opposes m way) (sym e) in
        ap (λ (x : Bool). ((x && opposes k way) && h) || (opposes n way && ((k == n) && h))) a
        ∙ ap (λ (x : Bool). opposes n way && (x && h)) b
        ∙ ap (λ (x : Bool). x && h) o
        ∙ ap (λ (x : Bool). (x && opposes k way) && h) (sym d)

    apart : (k ≡ n → ⊥) →
        (((nat_lt k n && opposes k way) && h) || (opposes n way && ((k == n) && h))) ≡ ((nat_lt k (suc n) && opposes k way) && h)
    apart e =
        let a : nat_lt k n ≡ nat_lt k (suc n) = grind (arith, nat_tests) in
        ap (λ (x : Bool). ((nat_lt k n && opposes k way) && h) || x)
        (and_right (opposes n way) ((k == n) && h) (and_left (k == n) h (ne_eqb k n e)))
        ∙ or-false ((nat_lt k n && opposes k way) && h)
        ∙ ap (λ (x : Bool). (x && opposes k way) && h) a

any_and : {A : Type 0} (b : Bool) (f : A → Bool) (xs : List A) → (b && list_any f xs) ≡ list_any (λ x. b && f x) xs
any_and true f xs = refl
any_and false f xs = sym (any_none (λ x. false) xs (λ x. refl))

module _ (before : List Touch) (touched : ℕ → Cell → Bool) (c : Cell)
    (known : (k : ℕ) → touched k c ≡ list_any (λ s. (kind_of s == k) && has_cell c s) before) where
  opposed_below : (n way : ℕ) → opposed n way touched c ≡ list_any (below n way c) before
  unfolding opposed
  opposed_below zero way =
      sym (any_none (below 0 way c) before (λ s. none_below (kind_of s) (opposes (kind_of s) way) (has_cell c s)))
  opposed_below (suc n) way =
      let at : Touch → Bool = λ s. (kind_of s == n) && has_cell c s in
      ap (λ (b : Bool). b || (opposes n way && touched n c)) (opposed_below n way)
      ∙ ap (λ (b : Bool). list_any (below n way c) before || (opposes n way && b)) (known n)
      ∙ ap (λ (b : Bool). list_any (below n way c) before || b) (any_and (opposes n way) at before)
      ∙ sym (any_or (below n way c) (λ s. opposes n way && at s) before)
      ∙ any_same (λ s. below n way c s || (opposes n way && at s)) (below (suc n) way c) before
      (λ s. one_more (kind_of s) n way (has_cell c s))

  pub opposed_before : (way : ℕ) → opposed ways way touched c ≡ touched_before before way c
  opposed_before way =
      opposed_below ways way
      ∙ any_same (below ways way c) (λ s. opposes (kind_of s) way && has_cell c s) before
      (λ s. ap (λ (b : Bool). (b && opposes (kind_of s) way) && has_cell c s) (kind_few s.combines s.is_write))
