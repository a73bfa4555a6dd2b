-- Cells that are read at the indices of a row.
use Rattle.std.proofs.Common.{◌≡◌, ℕ, ◌+◌, ◌-◌, ◌<◌, ◌≤◌, true, false, List, length, set, Option, Some, None, refl, sym, ap, ◌∙◌, arith, subst, ⊎_elim, length-set, leb-true}
use Rattle.std.specs.Prelude.{Bool, slice_get, slice_index, nat_le}
use Rattle.std.proofs.lemmas.Bool.{cases_eq}
use Rattle.std.proofs.lemmas.List.{get_or-set_same, get_or-set_other}
use Rattle.std.proofs.lemmas.Option.{slice_get-get_or, slice_get_within}
use Rattle.base.specs.Rows.{at_index}
use Rattle.kernel.specs.Lanes.{Agrees}

-- the first numbers are the cells' of a row from an index on, and the others are still indices
pub record Gathered (first : ℕ) (cells xs ys : List ℕ) (n : ℕ) : Type 0 where
  pub size : length ys ≡ length xs
  pub done : (k : ℕ) → k < n → Agrees (at_index first cells (slice_index xs k)) (slice_index ys k)
  pub rest : (k : ℕ) → n ≤ k → slice_index ys k ≡ slice_index xs k

-- a cell that is there is the one at the place of its index
at_place : (first : ℕ) (cells : List ℕ) (i v : ℕ) → (first ≤ i → i - first < length cells → v ≡ slice_index cells (i - first)) →
    Agrees (at_index first cells i) v
at_place first cells i v h = go (nat_le first i) refl
  where
    go : (b : Bool) → nat_le first i ≡ b → Agrees (elim b as (λ x. Option ℕ) [ true ↦ slice_get cells (i - first) | false ↦ None ]) v
    go false e = record { is = λ x k. absurd cc }
    go true e =
        record {
          is =
              λ x k. let inside = slice_get_within cells (i - first) x k in
              let same : ◌≡◌ {A = Option ℕ} (Some (slice_index cells (i - first))) (Some x) =
              sym (slice_get-get_or cells (i - first) 0 inside) ∙ k in
              h (leb-true first i e) inside ∙ cc;
        }

pub one_more : (first : ℕ) (cells xs ys : List ℕ) (n v : ℕ) → n < length ys → Gathered first cells xs ys n →
    (first ≤ slice_index ys n → slice_index ys n - first < length cells → v ≡ slice_index cells (slice_index ys n - first)) →
    Gathered first cells xs (set ys n v) (n + 1)
one_more first cells xs ys n v lt h is =
    record {
      size = length-set ys n v ∙ h.size;
      done = λ k low. ⊎_elim
          (λ e. let now : Agrees (at_index first cells (slice_index ys n)) v = at_place first cells (slice_index ys n) v is in
          let mine : slice_index (set ys n v) k ≡ v = ap (slice_index (set ys n v)) e ∙ get_or-set_same ys n v 0 lt in
          let from : slice_index ys n ≡ slice_index xs k = h.rest n (omega arith) ∙ ap (slice_index xs) (sym e) in
          subst (λ (m : ℕ). Agrees (at_index first cells (slice_index xs k)) m) (sym mine)
          (subst (λ (i : ℕ). Agrees (at_index first cells i) v) from now))
          (λ ne. subst (λ (m : ℕ). Agrees (at_index first cells (slice_index xs k)) m) (sym (get_or-set_other ys n k v 0 ne))
          (h.done k (omega (arith, low, ne)))) (cases_eq k n);
      rest = λ k high. get_or-set_other ys n k v 0 (λ e. omega (arith, e, high)) ∙ h.rest k (omega (arith, high));
    }
