-- The rows from the last item to the first, and the order that they are.
use Rattle.std.proofs.Common.{◌≡◌, ℕ, ◌+◌, ◌^◌, ◌<◌, ◌≤◌, true, false, List, length, get_or, Option, refl, sym, ap, subst, ⊎_elim, arith}
use Rattle.std.specs.Prelude.{IfOk, Result, Ok, Err, slice_get, slice_set, ◌&&◌, ◌↔◌, nat_lt}
use Rattle.std.proofs.lemmas.Bool.{cases_eq, cases_lt, and_parts, and_from, ltb-true, lt-ltb}
use Rattle.std.proofs.lemmas.Option.{slice_get_read}
use Rattle.base.specs.Items.{Plan}
use Rattle.base.specs.Limits.{most_items}
use Rattle.base.specs.Order.{Before, IsAfterAll}
use Rattle.base.proofs.Places.{get_set_same, get_set_other}
use Rattle.bits.specs.Sets.{has}
use Rattle.order.specs.declared.rows.Row.{Row}
use Rattle.order.specs.Rows.{AreRowsFrom, IsNextWait, IsOrder, IsRow, IsRowThere, is_in, waits_at}
use Rattle.order.proofs.Befores.{later_inside, is_earlier}
use Rattle.order.proofs.Parts.{row_holds}

module _ (plan : Plan) where
  -- a row that is read
  pub row_read : (rows : List Row) (first k : ℕ) (r : Row) → AreRowsFrom plan first rows → first ≤ k → k < length rows →
      r ≡ get_or rows k r → IsRow plan k r
  row_read rows first k r h le lt is =
      subst (λ (o : Option Row). IsRowThere plan k o) (slice_get_read rows (length rows) k r refl lt is) (h k le lt)

  -- where its members stand
  pub row_bounds : (k : ℕ) (r : Row) → IsRow plan k r → length plan.items ≤ most_items → (j : ℕ) → has r.later j ≡ true →
      (k < j) × (j < 2 ^ 32)
  row_bounds k r h most j e =
      let before : Before plan k j = h.holds j e in
      let inside : j < length plan.items = later_inside plan k j before in
      (is_earlier plan k j before, omega (arith, inside, most))

  -- one row more
  pub row_set : (rows next : List Row) (i : ℕ) (r : Row) → AreRowsFrom plan (i + 1) rows → IsRow plan i r → i < length rows →
      length next ≡ length rows → next ≡ slice_set rows i r → AreRowsFrom plan i next
  row_set rows next i r h here inside same is k le lt =
      subst (λ (o : Option Row). IsRowThere plan k o) (sym (ap (λ xs. slice_get xs k) is)) (⊎_elim
      (λ (e : i ≡ k). subst (λ n. IsRowThere plan n (slice_get (slice_set rows i r) n)) e
      (subst (λ (o : Option Row). IsRowThere plan i o) (sym (get_set_same rows i r inside)) here))
      (λ (ne : i ≡ k → ⊥). subst (λ (o : Option Row). IsRowThere plan k o) (sym (get_set_other rows i r k ne))
      (h k (omega (arith, ne)) (omega arith))) (cases_eq i k))

  -- ---- the next wait for all items

  pub wait_past : IsNextWait plan (length plan.items) (length plan.items)
  wait_past = record { inside = omega arith; waits = λ lt. absurd (omega arith); first_one = λ j le lt. absurd (omega arith) }

  pub wait_here : (i : ℕ) → i < length plan.items → waits_at plan i ≡ true → IsNextWait plan i i
  wait_here i lt e = record { inside = omega arith; waits = λ h. (omega arith, e); first_one = λ j le below. absurd (omega arith) }

  pub wait_later : (i m : ℕ) → waits_at plan i ≡ false → IsNextWait plan (i + 1) m → IsNextWait plan i m
  wait_later i m e h = record {
    inside = h.inside;
    waits = λ lt. let both = h.waits lt in let le : i + 1 ≤ m = both.0 in (omega arith, both.1);
    first_one = λ j le lt. ⊎_elim (λ (s : i ≡ j). subst (λ n. waits_at plan n ≡ false) s e)
        (λ (ne : i ≡ j → ⊥). h.first_one j (omega (arith, ne)) lt) (cases_eq i j);
  }

  -- ---- what the order says

  pub before_there : (rows : List Row) (i j : ℕ) (r : Row) → IsOrder plan rows → i < length rows → r ≡ get_or rows i r →
      ((nat_lt j (length rows) && is_in r j) ≡ true) ↔ Before plan i j
  before_there rows i j r h lt is = (forth, back)
    where
      row : IsRow plan i r
      row = row_read rows 0 i r h.are (omega arith) lt is

      forth : (nat_lt j (length rows) && is_in r j) ≡ true → Before plan i j
      forth e =
          let both = and_parts (nat_lt j (length rows)) (is_in r j) e in
          let inside : j < length rows = ltb-true j (length rows) both.0 in
          let many : length rows ≡ length plan.items = h.many in
          row_holds plan i r row j (omega arith) both.1

      back : Before plan i j → (nat_lt j (length rows) && is_in r j) ≡ true
      back b =
          let inside : j < length plan.items = later_inside plan i j b in
          let many : length rows ≡ length plan.items = h.many in
          and_from (nat_lt j (length rows)) (is_in r j) (lt-ltb j (length rows) (omega arith)) (row.found j b)

  -- an item past the last is before none
  pub before_none : (rows : List Row) (i j : ℕ) → IsOrder plan rows → length rows ≤ i → Before plan i j → ⊥
  before_none rows i j h past b =
      let many : length rows ≡ length plan.items = h.many in
      let inside : j < length plan.items = later_inside plan i j b in
      let before : i < j = is_earlier plan i j b in
      absurd (omega arith)

  pub after_none : (rows : List Row) (i : ℕ) → IsOrder plan rows → length rows ≤ i → IsAfterAll plan i (length rows)
  after_none rows i h past = record {
    all = λ j le lt. let many : length rows ≡ length plan.items = h.many in absurd (omega arith);
    least = λ k all. ⊎_elim (λ (lt : k < length rows). let many : length rows ≡ length plan.items = h.many in
        absurd (before_none rows i k h past (all k (omega arith) (omega arith)))) (λ (le : length rows ≤ k). le) (cases_lt k (length rows));
  }

  pub after_there : (rows : List Row) (i : ℕ) (r : Row) → IsOrder plan rows → i < length rows → r ≡ get_or rows i r →
      IsAfterAll plan i r.place
  after_there rows i r h lt is = (row_read rows 0 i r h.are (omega arith) lt is).place

  -- no place is past the last item
  pub place_inside : (i place : ℕ) → IsAfterAll plan i place → place ≤ length plan.items
  place_inside i place h = h.least (length plan.items) (λ j le lt. absurd (omega arith))

-- three facts of a result that is a row
pub all_of_row : {E : Type 0} (result : Result Row E) (p q s t : Row → Type 0) → IfOk result p → IfOk result q → IfOk result s →
    ((r : Row) → p r → q r → s r → t r) → IfOk result t
all_of_row (Ok r) p q s t a b c f = f r a b c
all_of_row (Err e) p q s t a b c f = tt
