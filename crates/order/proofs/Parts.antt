-- What a row has so far of the items that an item is before.
use Rattle.std.proofs.Common.{◌≡◌, ℕ, ◌+◌, ◌-◌, ◌<◌, ◌≤◌, Bool, true, false, length, sym, ◌∙◌, subst, inl, inr, ◌⊎◌, ⊎_elim, arith}
use Rattle.std.specs.Prelude.{slice_get, ◌||◌, ◌==◌, nat_le, not}
use Rattle.std.proofs.lemmas.Bool.{or_cases, or_left, or_right, eq-eqb, eqb-true, cases_eq, cases_lt, le-leb, leb-true}
use Rattle.base.specs.Items.{Plan}
use Rattle.base.specs.Order.{Before, in_line, through}
use Rattle.bits.specs.Sets.{has}
use Rattle.order.specs.declared.rows.Row.{Row}
use Rattle.order.specs.Rows.{HasMatches, HasWaits, IsNextWait, IsPart, IsRow, is_in, waits_at}
use Rattle.order.proofs.Befores.{Leads, FirstStep, ask_one, first_step, led, led_by, later_inside, is_earlier, wait_inside, wait_leads}

pub in_place : (r : Row) (j : ℕ) → r.place ≤ j → is_in r j ≡ true
in_place r j le = or_left (nat_le r.place j) (has r.later j) (le-leb r.place j le)

pub in_member : (r : Row) (j : ℕ) → has r.later j ≡ true → is_in r j ≡ true
in_member r j e = or_right (nat_le r.place j) (has r.later j) e

pub in_which : (r : Row) (j : ℕ) → is_in r j ≡ true → (r.place ≤ j) ⊎ (has r.later j ≡ true)
in_which r j e = ⊎_elim (λ (le : nat_le r.place j ≡ true). inl (leb-true r.place j le)) (λ (m : has r.later j ≡ true). inr m)
    (or_cases (nat_le r.place j) (has r.later j) e)

pub is_false : (b : Bool) → b ≡ false → b ≡ true → ⊥
is_false b f t = let bad : true ≡ false = sym t ∙ f in absurd cc

module _ (plan : Plan) (i : ℕ) where
  pub row_holds : (r : Row) → IsRow plan i r → (j : ℕ) → j < length plan.items → is_in r j ≡ true → Before plan i j
  row_holds r h j lt e = ⊎_elim (λ (le : r.place ≤ j). h.place.all j le lt) (h.holds j) (in_which r j e)

  -- nothing is found
  pub nothing : (r : Row) → r.place ≡ length plan.items → ((k : ℕ) → has r.later k ≡ false) → IsPart plan i r
  nothing r place none = record {
    inside = omega arith;
    few = λ j e. absurd (is_false (has r.later j) (none j) e);
    holds = λ j lt e. absurd (past j lt e);
    closed = λ j k e b. absurd (let before : j < k = is_earlier plan j k b in
        let inside : k < length plan.items = later_inside plan j k b in past j (omega arith) e);
  }
    where
      past : (j : ℕ) → j < length plan.items → is_in r j ≡ true → ⊥
      past j lt e = ⊎_elim (λ (le : r.place ≤ j). absurd (omega arith))
          (λ (m : has r.later j ≡ true). absurd (is_false (has r.later j) (none j) m)) (in_which r j e)

  -- an item that it leads to is added, with those of its row
  module _ (m : ℕ) (old row new : Row) (leads : Leads plan i m) (is_row : IsRow plan m row)
      (added : (k : ℕ) → is_in new k ≡ (is_in old k || ((m == k) || is_in row k))) where
    pub kept : (k : ℕ) → is_in old k ≡ true → is_in new k ≡ true
    kept k e = added k ∙ or_left (is_in old k) ((m == k) || is_in row k) e

    pub itself : is_in new m ≡ true
    itself = added m ∙ or_right (is_in old m) ((m == m) || is_in row m) (or_left (m == m) (is_in row m) (eq-eqb m m refl'))
      where
        refl' : m ≡ m
        refl' = omega arith

    pub behind : (k : ℕ) → Before plan m k → is_in new k ≡ true
    behind k b = added k ∙ or_right (is_in old k) ((m == k) || is_in row k) (or_right (m == k) (is_in row k) (is_row.found k b))

    which : (k : ℕ) → is_in new k ≡ true → (is_in old k ≡ true) ⊎ ((m ≡ k) ⊎ (is_in row k ≡ true))
    which k e = ⊎_elim (λ (o : is_in old k ≡ true). inl o)
        (λ (n : ((m == k) || is_in row k) ≡ true). inr (⊎_elim (λ (s : (m == k) ≡ true). inl (eqb-true m k s))
        (λ (r : is_in row k ≡ true). inr r) (or_cases (m == k) (is_in row k) n)))
        (or_cases (is_in old k) ((m == k) || is_in row k) (sym (added k) ∙ e))

    pub part_added : IsPart plan i old →
        ((k : ℕ) → has new.later k ≡ true → (has old.later k || ((m == k) || has row.later k)) ≡ true) →
        new.place ≤ old.place → IsPart plan i new
    part_added h members less = record {
      inside = let top : old.place ≤ length plan.items = h.inside in omega arith;
      few = λ k e. ⊎_elim (h.few k)
          (λ (n : ((m == k) || has row.later k) ≡ true). ⊎_elim
          (λ (s : (m == k) ≡ true). subst (λ n. n < length plan.items) (eqb-true m k s) (later_inside plan i m (led plan i m leads)))
          (λ (r : has row.later k ≡ true). later_inside plan m k (is_row.holds k r)) (or_cases (m == k) (has row.later k) n))
          (or_cases (has old.later k) ((m == k) || has row.later k) (members k e));
      holds = λ k lt e. ⊎_elim (h.holds k lt)
          (λ (n : (m ≡ k) ⊎ (is_in row k ≡ true)). ⊎_elim
          (λ (s : m ≡ k). subst (λ n. Before plan i n) s (led plan i m leads))
          (λ (r : is_in row k ≡ true). through i m k (led plan i m leads) (row_holds' k lt r)) n) (which k e);
      closed = λ j k e b. ⊎_elim (λ (o : is_in old j ≡ true). kept k (h.closed j k o b))
          (λ (n : (m ≡ j) ⊎ (is_in row j ≡ true)). ⊎_elim
          (λ (s : m ≡ j). behind k (subst (λ n. Before plan n k) (sym s) b))
          (λ (r : is_in row j ≡ true). let before : j < k = is_earlier plan j k b in
          let inside : k < length plan.items = later_inside plan j k b in
          behind k (through m j k (row_holds' j (omega arith) r) b)) n) (which j e);
    }
      where
        row_holds' : (j : ℕ) → j < length plan.items → is_in row j ≡ true → Before plan m j
        row_holds' j lt e = ⊎_elim (λ (le : row.place ≤ j). is_row.place.all j le lt) (is_row.holds j) (in_which row j e)

    -- where it is the first wait for all items
    pub waits_added : IsNextWait plan (i + 1) m → m < length plan.items → HasWaits plan i new
    waits_added next inside j later wait = ⊎_elim
        (λ (lt : j < m). absurd (is_false (waits_at plan j) (next.first_one j (omega arith) lt) wait))
        (λ (le : m ≤ j). ⊎_elim (λ (s : m ≡ j). subst (λ n. is_in new n ≡ true) s itself)
        (λ (ne : m ≡ j → ⊥). behind j (led plan m j (wait_leads plan m j (omega (arith, ne)) inside wait))) (cases_eq m j))
        (cases_lt j m)

  -- there is no wait for all items
  pub no_waits : (r : Row) (m : ℕ) → IsNextWait plan (i + 1) m → length plan.items ≤ m → HasWaits plan i r
  no_waits r m next past j later wait =
      let inside : j < length plan.items = wait_inside plan j wait in
      absurd (is_false (waits_at plan j) (next.first_one j (omega arith) (omega arith)) wait)

  -- a row with the same items
  pub waits_kept : (old new : Row) → ((k : ℕ) → is_in old k ≡ true → is_in new k ≡ true) → HasWaits plan i old → HasWaits plan i new
  waits_kept old new more h j later wait = more j (h j later wait)

  -- with all items that it leads to, a row has all items that it is before
  pub row_found : (part r : Row) → i < length plan.items → ask_one (slice_get plan.items i) (λ w. w.deferred) ≡ true →
      IsPart plan i part → HasWaits plan i part → HasMatches plan i part →
      ((k : ℕ) → is_in r k ≡ is_in part k) → ((k : ℕ) → has r.later k ≡ true → has part.later k ≡ true) →
      (1 ≤ r.place → is_in part (r.place - 1) ≡ false) → IsRow plan i r
  row_found part r here deferred h waits matches same members least = record {
    place = record {
      all = λ j le lt. h.holds j lt (sym (same j) ∙ in_place r j le);
      least = λ k all. ⊎_elim (λ (lt : k < r.place). absurd (is_false (is_in part (r.place - 1)) (least (omega arith))
          (found (r.place - 1) (all (r.place - 1) (omega arith) (below_all (omega arith)))))) (λ (le : r.place ≤ k). le) (cases_lt k r.place);
    };
    holds = λ j e. h.holds j (h.few j (members j e)) (in_member part j (members j e));
    found = λ j b. same j ∙ found j b;
  }
    where
      found : (j : ℕ) → Before plan i j → is_in part j ≡ true
      found j b = by_step (first_step plan i j b)
        where
          by_step : FirstStep plan i j → is_in part j ≡ true
          by_step step =
              let there : is_in part step.to ≡ true = ⊎_elim (waits step.to step.leads.earlier) (matches step.to step.leads.earlier)
              (led_by plan i step.to deferred step.leads) in
              ⊎_elim (λ (s : j ≡ step.to). subst (λ n. is_in part n ≡ true) (sym s) there) (h.closed step.to j there) step.reached

      below_all : 1 ≤ r.place → r.place - 1 < length plan.items
      below_all some = ⊎_elim (λ (lt : r.place - 1 < part.place). let top : part.place ≤ length plan.items = h.inside in omega arith)
          (λ (le : part.place ≤ r.place - 1). absurd (is_false (is_in part (r.place - 1)) (least some) (in_place part (r.place - 1) le)))
          (cases_lt (r.place - 1) part.place)

  -- an item that is not deferred is before all later ones
  pub row_in_line : (r : Row) → i < length plan.items → ask_one (slice_get plan.items i) (λ w. not w.deferred) ≡ true →
      r.place ≡ i + 1 → ((k : ℕ) → has r.later k ≡ false) → IsRow plan i r
  row_in_line r here first place none = record {
    place = record {
      all = λ j le lt. in_line i j (omega arith) lt first;
      least = λ k all. ⊎_elim (λ (lt : k < r.place).
          let below : i < i = is_earlier plan i i (all i (omega arith) here) in absurd (omega arith)) (λ (le : r.place ≤ k). le)
          (cases_lt k r.place);
    };
    holds = λ j e. absurd (is_false (has r.later j) (none j) e);
    found = λ j b. let later : i < j = is_earlier plan i j b in in_place r j (omega arith);
  }
