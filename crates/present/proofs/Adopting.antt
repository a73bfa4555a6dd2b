-- Numbers that become those of a row, with which they agree where it has no mark.
use Rattle.std.proofs.Common.{◌≡◌, ◌<◌, ℕ, zero, suc, ◌+◌, ◌-◌, Bool, true, false, List, [], ◌∷◌, length, get_or, Some, refl, sym, ap, ◌∙◌, inl, arith}
use Rattle.std.specs.Prelude.{slice_get, slice_range, nat_lt, option_map, unwrap_or}
use Rattle.std.proofs.lemmas.Bool.{ltb-true, ltb-false}
use Rattle.std.proofs.lemmas.List.{take_all}
use Rattle.std.proofs.lemmas.Option.{slice_get-get_or, slice_get_past}
use Rattle.base.specs.Rows.{at_index, if_marked}
use Rattle.present.specs.Rows.{AgreeUnmarked, Takes, marked_at}
use Rattle.present.proofs.RowParts.{at_index_from, untaken}

-- a row that is lent from its first number to its last
pub whole_row : (xs : List ℕ) (first count : ℕ) → first ≡ 0 → count ≡ length xs →
    slice_range xs first (first + count) ≡ xs
whole_row xs first count e f =
    ap (λ n. slice_range xs n (n + count)) e ∙ take_all (0 + count - 0) xs (omega (arith, f))

pub adopted : (first : ℕ) (old numbers : List ℕ) (marks : List Bool) → length marks ≡ length numbers →
    length old ≡ length numbers → AgreeUnmarked old numbers marks →
    Takes (marked_at first numbers marks) first old numbers
adopted first old numbers marks m l h k = go (nat_lt k (length numbers)) refl
  where
    at : first + k - first ≡ k
    at = omega arith

    go : (s : Bool) → nat_lt k (length numbers) ≡ s →
        slice_get numbers k
        ≡ option_map (λ n. unwrap_or (marked_at first numbers marks (first + k)) n) (slice_get old k)
    go false e =
        let past = ltb-false k (length numbers) e in
        slice_get_past numbers k (omega (arith, past))
        ∙ sym (ap (option_map (λ n. unwrap_or (marked_at first numbers marks (first + k)) n))
        (slice_get_past old k (omega (arith, past, l))))
    go true e = by_mark (get_or marks k false) (slice_get-get_or marks k false (omega (arith, within, m)))
      where
        within : k < length numbers
        within = ltb-true k (length numbers) e

        there : slice_get old k ≡ Some (get_or old k 0)
        there = slice_get-get_or old k 0 (omega (arith, within, l))

        number : slice_get numbers k ≡ Some (get_or numbers k 0)
        number = slice_get-get_or numbers k 0 (omega (arith, within))

        of_mark : (b : Bool) → slice_get marks k ≡ Some b →
            marked_at first numbers marks (first + k) ≡ if_marked (Some b) (slice_get numbers k)
        of_mark b is =
            ap (λ o. if_marked o (at_index first numbers (first + k)))
            (at_index_from first marks (first + k) (omega arith) ∙ ap (slice_get marks) at ∙ is)
            ∙ ap (if_marked (Some b))
            (at_index_from first numbers (first + k) (omega arith) ∙ ap (slice_get numbers) at)

        by_mark : (b : Bool) → slice_get marks k ≡ Some b →
            slice_get numbers k
            ≡ option_map (λ n. unwrap_or (marked_at first numbers marks (first + k)) n) (slice_get old k)
        by_mark false is =
            h k is ∙ untaken (marked_at first numbers marks (first + k)) (slice_get old k) (inl (of_mark false is))
        by_mark true is =
            number
            ∙ sym (ap (λ o. option_map (λ n. unwrap_or o n) (slice_get old k)) (of_mark true is ∙ number)
            ∙ ap (option_map (λ n. unwrap_or (Some (get_or numbers k 0)) n)) there)

-- numbers that take others are as many
pub as_many : (taken : ℕ → ℕ → ℕ) (old new : List ℕ) →
    ((k : ℕ) → slice_get new k ≡ option_map (taken k) (slice_get old k)) → length new ≡ length old
as_many taken [] [] h = refl
as_many taken [] (y ∷ ys) h = absurd (cc (h zero))
as_many taken (x ∷ xs) [] h = absurd (cc (h zero))
as_many taken (x ∷ xs) (y ∷ ys) h = ap suc (as_many (λ k. taken (suc k)) xs ys (λ k. h (suc k)))
