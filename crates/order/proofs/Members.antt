-- The members of a set below a place.
use Rattle.std.proofs.Common.{◌≡◌, ℕ, ◌-◌, ◌<◌, ◌≤◌, Bool, true, false, sym, refl, ap, ap₂, ◌∙◌, inl, inr, ◌⊎◌, ⊎_elim, arith}
use Rattle.std.specs.Prelude.{◌&&◌, not, nat_le, nat_lt, if◌then◌else◌}
use Rattle.std.proofs.lemmas.Bool.{and_left, and_parts, and_right, cases_Bool, cases_lt, le-leb, le-ltb, lt-leb, lt-ltb}
use Rattle.bits.specs.declared.set.BitSet.{BitSet}
use Rattle.bits.specs.Sets.{IsEndOf, all_words, has, is_from, room, start}
use Rattle.bits.proofs.Words.{past}
use Rattle.bits.proofs.Zeros.{below_start}
use Rattle.order.proofs.Parts.{is_false}

pub in_room : (s : BitSet) (i : ℕ) → has s i ≡ true → i < room s
in_room s i e = ⊎_elim (λ (lt : i < room s). lt)
    (λ (le : room s ≤ i). absurd (is_false (has s i) (past (all_words s) i (omega arith)) e)) (cases_lt i (room s))

pub from_start : (s : BitSet) (i : ℕ) → has s i ≡ true → start s ≤ i
from_start s i e = ⊎_elim (λ (lt : i < start s). absurd (is_false (has s i) (below_start s i lt) e)) (λ (le : start s ≤ i). le)
    (cases_lt i (start s))

-- the members from the place on are taken out
pub cut : (old new : BitSet) (place : ℕ) → ((k : ℕ) → has new k ≡ (not (is_from place (room old) k) && has old k)) →
    (k : ℕ) → has new k ≡ (nat_lt k place && has old k)
cut old new place removed k = removed k ∙ ⊎_elim below above (cases_lt k place)
  where
    below : k < place → (not (is_from place (room old) k) && has old k) ≡ (nat_lt k place && has old k)
    below lt =
        ap (λ b. not b && has old k) (and_left (nat_le place k) (nat_lt k (room old)) (lt-leb place k lt))
        ∙ sym (ap (λ b. b && has old k) (lt-ltb k place lt))

    over : place ≤ k → (has old k ≡ true) ⊎ (has old k ≡ false) → (not (is_from place (room old) k) && has old k) ≡ false
    over le (inl e) = ap (λ b. not b && has old k) (ap₂ (λ a b. a && b) (le-leb place k le) (lt-ltb k (room old) (in_room old k e)))
    over le (inr e) = and_right (not (is_from place (room old) k)) (has old k) e

    above : place ≤ k → (not (is_from place (room old) k) && has old k) ≡ (nat_lt k place && has old k)
    above le = over le (cases_Bool (has old k)) ∙ sym (ap (λ b. b && has old k) (le-ltb k place le))

-- so the end is no greater
pub end_below : (old new : BitSet) (place end : ℕ) → ((k : ℕ) → has new k ≡ (not (is_from place (room old) k) && has old k)) →
    IsEndOf (has new) end → end ≤ place
end_below old new place end removed h = ⊎_elim (λ (lt : place < end). absurd (past_place (omega arith) (h.last (omega arith))))
    (λ (le : end ≤ place). le) (cases_lt place end)
  where
    past_place : place ≤ end - 1 → has new (end - 1) ≡ true → ⊥
    past_place le e = is_false (has new (end - 1))
        (cut old new place removed (end - 1) ∙ ap (λ b. b && has old (end - 1)) (le-ltb (end - 1) place le)) e

-- those that are left were copied
pub all_copied : (old cut kept : ℕ → Bool) (first end place : ℕ) →
    ((k : ℕ) → cut k ≡ (nat_lt k place && old k)) → ((k : ℕ) → k < first → old k ≡ false) → ((k : ℕ) → cut k ≡ true → k < end) →
    ((k : ℕ) → kept k ≡ (if is_from first end k then cut k else false)) → (k : ℕ) → kept k ≡ (nat_lt k place && old k)
all_copied old cut kept first end place cut_is none below kept_is k = kept_is k ∙ by_bit (cases_Bool (cut k)) ∙ cut_is k
  where
    same : (b : Bool) → cut k ≡ false → (if b then cut k else false) ≡ cut k
    same true e = refl
    same false e = sym e

    by_bit : (cut k ≡ true) ⊎ (cut k ≡ false) → (if is_from first end k then cut k else false) ≡ cut k
    by_bit (inl e) = ap (λ b. if b then cut k else false) (ap₂ (λ a b. a && b) (le-leb first k low) (lt-ltb k end (below k e)))
      where
        low : first ≤ k
        low = ⊎_elim (λ (lt : k < first). absurd (is_false (old k) (none k lt)
            (and_parts (nat_lt k place) (old k) (sym (cut_is k) ∙ e)).1)) (λ (le : first ≤ k). le) (cases_lt k first)
    by_bit (inr e) = same (is_from first end k) e

-- there is none below the place
pub none_below : (old kept : ℕ → Bool) (place : ℕ) → ((k : ℕ) → kept k ≡ false) → ((k : ℕ) → k < place → old k ≡ false) →
    (k : ℕ) → kept k ≡ (nat_lt k place && old k)
none_below old kept place empty none k = empty k ∙ sym (⊎_elim
    (λ (lt : k < place). and_right (nat_lt k place) (old k) (none k lt))
    (λ (le : place ≤ k). and_left (nat_lt k place) (old k) (le-ltb k place le)) (cases_lt k place))

-- a test from 0 on
pub from_zero : (p : ℕ → Bool) (k : ℕ) → (nat_le 0 k && p k) ≡ p k
from_zero p k = ap (λ b. b && p k) (le-leb 0 k (omega arith))
