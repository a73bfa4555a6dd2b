-- The first number of some that another test does not have, found from one number to the next.
use Rattle.std.proofs.Common.{◌≡◌, ℕ, ◌<◌, ◌≤◌, Bool, true, false, List, length, get_or, Some, None, sym, subst, arith, ⊎_elim}
use Rattle.std.specs.Prelude.{nat_le, not, ◌&&◌}
use Rattle.std.proofs.lemmas.Bool.{and_from, and_left, and_right, cases_lt, le-leb, not_from_true, not_from_false, and_parts}
use Rattle.std.proofs.lemmas.Bool.Decides.{nat_tests}
use Rattle.std.proofs.lemmas.List.Folds.{list_any_at}
use Rattle.base.specs.declared.item.Cell.{Cell}
use Rattle.base.specs.declared.item.MapItem.{MapItem}
use Rattle.base.specs.declared.item.Section.{Section}
use Rattle.base.specs.declared.tree.ArrayId.{ArrayId}
use Rattle.base.specs.Memory.{end_of, is_in}
use Rattle.bits.specs.Sets.{IsFirstAt}
use Rattle.mapwalk.specs.Causes.{AreMapped}

not_second : (a b : Bool) → a ≡ true → (a && b) ≡ false → b ≡ false
not_second true b e f = f
not_second false b e f = absurd cc

module _ (some had : ℕ → Bool) (from : ℕ) (before : (j : ℕ) → j < from → (some j && not (had j)) ≡ false) where
  unseen : (j : ℕ) → (nat_le from j && some j) ≡ false → (some j && not (had j)) ≡ false
  unseen j e =
      ⊎_elim (λ (l : j < from). before j l)
      (λ (l : from ≤ j). and_left (some j) (not (had j)) (not_second (nat_le from j) (some j) (le-leb from j l) e))
      (cases_lt j from)

  pub first_lacking : (i : ℕ) → IsFirstAt (λ j. nat_le from j && some j) (Some i) → had i ≡ false →
      IsFirstAt (λ j. some j && not (had j)) (Some i)
  first_lacking i first e = (
    and_from (some i) (not (had i)) (and_parts (nat_le from i) (some i) first.0).1 (not_from_false (had i) e),
    λ j l. unseen j (first.1 j l),
  )

  -- the number found and those next to it are had
  pub past_had : (i end : ℕ) → IsFirstAt (λ j. nat_le from j && some j) (Some i) →
      ((j : ℕ) → i ≤ j → j < end → had j ≡ true) → (j : ℕ) → j < end → (some j && not (had j)) ≡ false
  past_had i end first e j l =
      ⊎_elim (λ (before : j < i). unseen j (first.1 j before))
      (λ (from_it : i ≤ j). and_right (some j) (not (had j)) (not_from_true (had j) (e j from_it l)))
      (cases_lt j i)

  pub none_lacking : IsFirstAt (λ j. nat_le from j && some j) None → IsFirstAt (λ j. some j && not (had j)) None
  none_lacking none j = unseen j (none j)

  -- none is from there on
  pub none_past : ((j : ℕ) → from ≤ j → some j ≡ false) → IsFirstAt (λ j. some j && not (had j)) None
  none_past none j =
      ⊎_elim (λ (l : j < from). before j l) (λ (l : from ≤ j). and_left (some j) (not (had j)) (none j l)) (cases_lt j from)

-- the other cells of a section that has one
pub inside_on : (s : Section) (a : ArrayId) (i j : ℕ) → is_in (record { array = a; index = i }) s ≡ true → i ≤ j →
    j < end_of s → is_in (record { array = a; index = j }) s ≡ true
inside_on s a i j h le lt = grind (arith, nat_tests, h, le, lt)

pub inside_below : (s : Section) (a : ArrayId) (i : ℕ) → is_in (record { array = a; index = i }) s ≡ true → i < end_of s
inside_below s a i h = grind (arith, nat_tests, h)

-- a map item has the cells from one of its cells on
pub mapped_on : (maps : List MapItem) (k : ℕ) (d : MapItem) (cell : Cell) (end : ℕ) → k < length maps →
    end ≡ end_of (get_or maps k d).section → is_in cell (get_or maps k d).section ≡ true → AreMapped maps cell end
mapped_on maps k d cell end lt end_is there =
    let s = (get_or maps k d).section in
    record {
      ahead = subst (λ e. cell.index < e) (sym end_is) (inside_below s cell.array cell.index there);
      each = λ j le below. list_any_at (λ m. is_in (record { array = cell.array; index = j }) m.section) maps k d lt
          (inside_on s cell.array cell.index j there le (subst (λ e. j < e) end_is below));
    }
