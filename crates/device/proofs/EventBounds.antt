-- How many events a run has: each one takes an item further, or comes to the end. After the end there is none.
use Rattle.std.proofs.Common.{◌≡◌, ℕ, zero, suc, ◌+◌, ◌-◌, ◌*◌, ◌<◌, ◌≤◌, Bool, true, false, List, [], ◌∷◌, length, refl, sym, ap, ◌∙◌, subst, arith, Option, Some, None}
use Rattle.std.specs.Prelude.{not, ◌&&◌, ◌||◌, ◌==◌, if◌then◌else◌, option_map, slice_get}
use Rattle.std.proofs.lemmas.Bool.{false≢true, true≢false, and_parts, and_from, or_left, eqb-true}
use Rattle.std.proofs.lemmas.Bool.Decides.{nat_tests}
use Rattle.std.proofs.lemmas.Option.{same_Some, slice_get_within}
use Rattle.base.specs.declared.item.Event.{Event}
use Rattle.base.specs.declared.item.Event.TheVariants.{Gen, Open, Step, Close, Wait, End}
use Rattle.base.specs.Items.{Work, Plan}
use Rattle.base.specs.Map.{Memories, Fill, memories_at}
use Rattle.base.specs.Machine.{State, Condition, Untouched, Generated, Opened, Closed, Passed, start, is_open, is_waiting, is_wait, on_item, is_ready, deferred_closed, enabled, with_condition, with_memories, moved_on, opening, open_item, captured_by, worked_on, closing, step, Run, RunFrom, HasEnded}
use Rattle.base.proofs.Closing.{Kept, closing_keeps}
use Rattle.base.proofs.Runs.{enabled_Gen, enabled_Wait, enabled_End}
use Rattle.device.proofs.Ended.{open_closed, waiting_closed}
use Rattle.headline.proofs.SoundConditions.{is_untouched}
use Rattle.two_memories.proofs.PlanItems.{at_item, closed_at, on_true}

-- at least as many events as the item has had
abbrev pub had : Condition → ℕ
had Untouched = 0
had (Generated s) = 1
had (Opened s v) = 2
had Closed = 3
had Passed = 3

at_most_three : (c : Condition) → had c ≤ 3
at_most_three Untouched = omega arith
at_most_three (Generated s) = omega arith
at_most_three (Opened s v) = omega arith
at_most_three Closed = omega arith
at_most_three Passed = omega arith

-- of the first n items
abbrev pub had_by : (ℕ → Condition) → ℕ → ℕ
had_by f zero = 0
had_by f (suc n) = had_by f n + had (f n)

three_each : (f : ℕ → Condition) (n : ℕ) → had_by f n ≤ 3 * n
three_each f zero = omega arith
three_each f (suc n) = let a = three_each f n in let b = at_most_three (f n) in omega arith

same_by : (f g : ℕ → Condition) (n : ℕ) → ((j : ℕ) → j < n → g j ≡ f j) → had_by g n ≡ had_by f n
same_by f g zero h = refl
same_by f g (suc n) h =
    let a = same_by f g n (λ j lt. h j (omega arith)) in
    let b : had (g n) ≡ had (f n) = ap had (h n (omega arith)) in
    omega arith

not_same : (j i : ℕ) → (j == i) ≡ false → j ≡ i → ⊥
not_same j i h e = grind (arith, nat_tests)

is_other : (j i : ℕ) → (j ≡ i → ⊥) → (j == i) ≡ false
is_other j i h = grind (arith, nat_tests)

module _ (f g : ℕ → Condition) (i : ℕ) (c : Condition)
    (changed : (j : ℕ) → g j ≡ (if j == i then c else f j)) where
  here_is : (j : ℕ) → (j == i) ≡ true → g j ≡ c
  here_is j e = changed j ∙ ap (λ (b : Bool). if b then c else f j) e

  other_is : (j : ℕ) → (j == i) ≡ false → g j ≡ f j
  other_is j e = changed j ∙ ap (λ (b : Bool). if b then c else f j) e

  -- one item has had more
  one_further : (n : ℕ) → i < n → had_by g n + had (f i) ≡ had_by f n + had c
  one_further zero lt = absurd (omega arith)
  one_further (suc n) lt = go (n == i) refl (λ l. one_further n l)
    where
      go : (b : Bool) → (n == i) ≡ b → (i < n → had_by g n + had (f i) ≡ had_by f n + had c) →
          had_by g (suc n) + had (f i) ≡ had_by f (suc n) + had c
      go true e later =
          let at : n ≡ i = eqb-true n i e in
          let before = same_by f g n (λ j l. other_is j (is_other j i (below j n i l at))) in
          let now : had (g n) ≡ had c = ap had (here_is n e) in
          let old : had (f n) ≡ had (f i) = ap (λ k. had (f k)) at in
          omega arith
        where
          below : (j n i : ℕ) → j < n → n ≡ i → j ≡ i → ⊥
          below j n i l at e = omega arith
      go false e later =
          let k = later (above n i lt (not_same n i e)) in
          let now : had (g n) ≡ had (f n) = ap had (other_is n e) in
          omega arith
        where
          above : (n i : ℕ) → i < suc n → (n ≡ i → ⊥) → i < n
          above n i lt h = omega arith

-- what an item's condition may be, by where the host stands
pub record Fits (w : Work) (j place : ℕ) (c : Condition) : Type 0 where
  pub behind : w.deferred ≡ false → j < place → is_open c ≡ false
  pub here : j ≡ place → (is_untouched c || (not w.deferred && (not (is_wait w.kind) && is_open c))) ≡ true
  pub beyond : place < j → is_untouched c ≡ true

open_touched : (c : Condition) → is_open c ≡ true → is_untouched c ≡ true → ⊥
open_touched Untouched h k = false≢true h
open_touched (Generated s) h k = false≢true h
open_touched (Opened s v) h k = false≢true k
open_touched Closed h k = false≢true h
open_touched Passed h k = false≢true h

had_none : (c : Condition) → is_untouched c ≡ true → had c ≡ 0
had_none Untouched h = refl
had_none (Generated s) h = absurd (false≢true h)
had_none (Opened s v) h = absurd (false≢true h)
had_none Closed h = absurd (false≢true h)
had_none Passed h = absurd (false≢true h)

had_open : (c : Condition) → is_open c ≡ true → had c ≡ 2
had_open Untouched h = absurd (false≢true h)
had_open (Generated s) h = absurd (false≢true h)
had_open (Opened s v) h = refl
had_open Closed h = absurd (false≢true h)
had_open Passed h = absurd (false≢true h)

had_waiting : (d : Bool) (c : Condition) → is_waiting d c ≡ true → had c ≤ 1
had_waiting true Untouched h = omega arith
had_waiting true (Generated s) h = omega arith
had_waiting true (Opened s v) h = absurd (false≢true h)
had_waiting true Closed h = absurd (false≢true h)
had_waiting true Passed h = absurd (false≢true h)
had_waiting false Untouched h = omega arith
had_waiting false (Generated s) h = absurd (false≢true h)
had_waiting false (Opened s v) h = absurd (false≢true h)
had_waiting false Closed h = absurd (false≢true h)
had_waiting false Passed h = absurd (false≢true h)

waiting_touched : (c : Condition) → is_waiting true c ≡ true → is_untouched c ≡ true → ⊥
waiting_touched Untouched h k = false≢true h
waiting_touched (Generated s) h k = false≢true k
waiting_touched (Opened s v) h k = false≢true h
waiting_touched Closed h k = false≢true h
waiting_touched Passed h k = false≢true h

differ : {A : Type 0} (b : Bool) → b ≡ true → b ≡ false → A
differ b h k = absurd (true≢false (sym h ∙ k))

-- an item at the host's place that may not be open is untouched
not_open_here : (u d w o : Bool) → (u || (not d && (not w && o))) ≡ true → (d ≡ true → u ≡ true) × (w ≡ true → u ≡ true)
not_open_here true d w o h = (λ e. refl, λ e. refl)
not_open_here false true w o h = absurd (false≢true h)
not_open_here false false true o h = absurd (false≢true h)
not_open_here false false false o h = (λ e. absurd (false≢true e), λ e. absurd (false≢true e))

squeeze : (a b : ℕ) → (a < b → ⊥) → (b < a → ⊥) → a ≡ b
squeeze a b h k = omega arith

less_one : (a b : ℕ) → (a ≡ b → ⊥) → a < b + 1 → a < b
less_one a b h k = omega arith

module _ (pl : Plan) (fill : ℕ → Fill) where
  abbrev many : ℕ
  many = length pl.items

  -- what holds of each state that a run reaches
  pub record Fine (s : State) : Type 0 where
    pub top : s.place ≤ length pl.items + 1
    pub last : s.place ≡ length pl.items + 1 → deferred_closed pl s ≡ true
    pub items : (j : ℕ) (w : Work) → slice_get pl.items j ≡ Some w → Fits w j s.place (s.condition j)

  -- at least as many events as there were
  abbrev pub events_had : State → ℕ
  events_had s = had_by s.condition (length pl.items) + (s.place - length pl.items)

  record Further (s t : State) : Type 0 where
    fine : Fine t
    more : events_had s + 1 ≤ events_had t

  moved_up : (w : Work) (j place : ℕ) (c : Condition) → Fits w j place c → (j ≡ place → ⊥) → Fits w j (place + 1) c
  moved_up w j place c ok other = record {
    behind = λ d lt. ok.behind d (less_one j place other lt);
    here = λ e. or_left (is_untouched c) _ (ok.beyond (omega arith));
    beyond = λ lt. ok.beyond (omega arith);
  }

  -- After the end nothing may happen.
  module _ (s : State) (ok : Fine s) (ended : s.place ≡ length pl.items + 1) where
    pub nothing_more : (e : Event) → enabled pl s e ≡ true → ⊥
    nothing_more (Gen i) h = let k = enabled_Gen pl s i h in omega arith
    nothing_more (Wait i) h = let k = enabled_Wait pl s i h in omega arith
    nothing_more End h = let k = enabled_End pl s h in omega arith
    nothing_more (Open i) h =
        let f = on_true pl i (λ w. not (is_wait w.kind) && ((w.deferred || (s.place == i)) &&
        (is_waiting w.deferred (s.condition i) && is_ready pl s i))) h in
        let a = and_parts (not (is_wait f.0.kind)) _ f.2 in
        let b = and_parts (f.0.deferred || (s.place == i)) _ a.1 in
        let d = and_parts (is_waiting f.0.deferred (s.condition i)) (is_ready pl s i) b.1 in
        go f.0 f.1 f.0.deferred refl b.0 d.0
      where
        go : (w : Work) → slice_get pl.items i ≡ Some w → (b : Bool) → w.deferred ≡ b →
            (b || (s.place == i)) ≡ true → is_waiting b (s.condition i) ≡ true → ⊥
        go w e true d h k = waiting_closed (s.condition i) k (closed_at pl s i w (ok.last ended) e d)
        go w e false d h k =
            let at = eqb-true s.place i h in
            let lt = slice_get_within pl.items i w e in
            omega arith
    nothing_more (Step i) h = false≢true h
    nothing_more (Close i) h =
        let f = on_true pl i (λ w. is_open (s.condition i)) h in
        go f.0 f.1 f.0.deferred refl f.2
      where
        go : (w : Work) → slice_get pl.items i ≡ Some w → (b : Bool) → w.deferred ≡ b →
            is_open (s.condition i) ≡ true → ⊥
        go w e true d h = open_closed (s.condition i) h (closed_at pl s i w (ok.last ended) e d)
        go w e false d h =
            let lt = slice_get_within pl.items i w e in
            differ (is_open (s.condition i)) h ((ok.items i w e).behind d (omega arith))

  -- one item has another condition, and the host stands where it stood
  further_same : (s t : State) (i : ℕ) (w : Work) (c : Condition) → Fine s → (s.place ≡ length pl.items + 1 → ⊥) →
      slice_get pl.items i ≡ Some w → t.place ≡ s.place →
      ((j : ℕ) → t.condition j ≡ (if j == i then c else s.condition j)) →
      had (s.condition i) + 1 ≤ had c → Fits w i s.place c → Further s t
  further_same s t i w c ok going e at conditions more own = record {
    fine = record {
      top = (let k = ok.top in omega arith);
      last = λ k. absurd (going (sym at ∙ k));
      items = λ j v g. subst (λ n. Fits v j n (t.condition j)) (sym at) (each j v g (j == i) refl);
    };
    more =
        let k = one_further s.condition t.condition i c conditions (length pl.items) (slice_get_within pl.items i w e) in
        omega arith;
  }
    where
      each : (j : ℕ) (v : Work) → slice_get pl.items j ≡ Some v → (b : Bool) → (j == i) ≡ b →
          Fits v j s.place (t.condition j)
      each j v g true is =
          let same = eqb-true j i is in
          let work : w ≡ v = same_Some w v (sym e ∙ sym (ap (slice_get pl.items) same) ∙ g) in
          subst (λ (x : Condition). Fits v j s.place x) (sym (here_is s.condition t.condition i c conditions j is))
          (subst (λ n. Fits v n s.place c) (sym same) (subst (λ (x : Work). Fits x i s.place c) work own))
      each j v g false is =
          subst (λ (x : Condition). Fits v j s.place x) (sym (other_is s.condition t.condition i c conditions j is))
          (ok.items j v g)

  -- the same, where the host moves on past the item
  further_next : (s t : State) (i : ℕ) (w : Work) (c : Condition) → Fine s → i ≡ s.place →
      slice_get pl.items i ≡ Some w → t.place ≡ s.place + 1 →
      ((j : ℕ) → t.condition j ≡ (if j == i then c else s.condition j)) →
      had (s.condition i) + 1 ≤ had c → (w.deferred ≡ false → is_open c ≡ false) → Further s t
  further_next s t i w c ok here e at conditions more own =
      record {
        fine = record {
          top = (let l = within in omega arith);
          last = λ k. absurd (let l = within in omega arith);
          items = λ j v g. subst (λ n. Fits v j n (t.condition j)) (sym at) (each j v g (j == i) refl);
        };
        more =
            let k = one_further s.condition t.condition i c conditions (length pl.items) within in
            let l = within in
            omega arith;
      }
    where
      within : i < length pl.items
      within = slice_get_within pl.items i w e

      each : (j : ℕ) (v : Work) → slice_get pl.items j ≡ Some v → (b : Bool) → (j == i) ≡ b →
          Fits v j (s.place + 1) (t.condition j)
      each j v g true is =
          let same = eqb-true j i is in
          let work : v ≡ w = same_Some v w (sym g ∙ ap (slice_get pl.items) same ∙ e) in
          subst (λ (x : Condition). Fits v j (s.place + 1) x)
          (sym (here_is s.condition t.condition i c conditions j is))
          (record {
            behind = λ d lt. own (sym (ap (λ (x : Work). x.deferred) work) ∙ d);
            here = λ k. absurd (omega arith);
            beyond = λ lt. absurd (omega arith);
          })
      each j v g false is =
          subst (λ (x : Condition). Fits v j (s.place + 1) x)
          (sym (other_is s.condition t.condition i c conditions j is))
          (moved_up v j s.place (s.condition j) (ok.items j v g) (λ k. not_same j i is (k ∙ sym here)))

  module _ (s : State) (ok : Fine s) (t : State) where
    going_on : (e : Event) → enabled pl s e ≡ true → s.place ≡ length pl.items + 1 → ⊥
    going_on e may last = nothing_more s ok last e may

    generated : (i : ℕ) → enabled pl s (Gen i) ≡ true → step pl fill s (Gen i) ≡ Some t → Further s t
    generated i may is =
        let p = and_parts (s.place == i) _ may in
        let at : i ≡ s.place = sym (eqb-true s.place i p.0) in
        let f = on_true pl i (λ w. w.deferred) p.1 in
        let mine = not_open_here _ f.0.deferred (is_wait f.0.kind) _ ((ok.items i f.0 f.1).here at) in
        let none = had_none (s.condition i) (mine.0 f.2) in
        subst (Further s) (same_Some (moved_on false (with_condition i (Generated s.scalars) s)) t is)
        (further_next s (moved_on false (with_condition i (Generated s.scalars) s)) i f.0 (Generated s.scalars) ok at f.1
        refl (λ j. refl) (omega arith) (λ d. refl))

    passed : (i : ℕ) → enabled pl s (Wait i) ≡ true → step pl fill s (Wait i) ≡ Some t → Further s t
    passed i may is =
        let p = and_parts (s.place == i) _ may in
        let at : i ≡ s.place = sym (eqb-true s.place i p.0) in
        let q = and_parts (on_item pl i false (λ w. is_wait w.kind)) (is_ready pl s i) p.1 in
        let f = on_true pl i (λ w. is_wait w.kind) q.0 in
        let mine = not_open_here _ f.0.deferred (is_wait f.0.kind) _ ((ok.items i f.0 f.1).here at) in
        let none = had_none (s.condition i) (mine.1 f.2) in
        subst (Further s) (same_Some (moved_on false (with_condition i Passed s)) t is)
        (further_next s (moved_on false (with_condition i Passed s)) i f.0 Passed ok at f.1
        refl (λ j. refl) (omega arith) (λ d. refl))

    ended : enabled pl s End ≡ true → step pl fill s End ≡ Some t → Further s t
    ended may is =
        let p = enabled_End pl s may in
        let at = p.0 in
        subst (Further s) (same_Some (moved_on false s) t is)
        (record {
          fine = record {
            top = omega arith;
            last = λ k. p.1;
            items = λ j w e. let l = slice_get_within pl.items j w e in
                moved_up w j s.place (s.condition j) (ok.items j w e) (λ k. before j (length pl.items) s.place l at k);
          };
          more = omega arith;
        })
      where
        before : (j n place : ℕ) → j < n → place ≡ n → j ≡ place → ⊥
        before j n place l at k = omega arith

    opened : (i : ℕ) → enabled pl s (Open i) ≡ true → step pl fill s (Open i) ≡ Some t → Further s t
    opened i may is =
        let f = on_true pl i (λ w. not (is_wait w.kind) && ((w.deferred || (s.place == i)) &&
        (is_waiting w.deferred (s.condition i) && is_ready pl s i))) may in
        let a = and_parts (not (is_wait f.0.kind)) _ f.2 in
        let b = and_parts (f.0.deferred || (s.place == i)) _ a.1 in
        let d = and_parts (is_waiting f.0.deferred (s.condition i)) (is_ready pl s i) b.1 in
        go f.0 f.1 a.0 b.0 d.0
        (opening (fill i) f.0 (memories_at f.0.device s.memories)) (sym (at_item pl i f.0 f.1 None (λ w. open_item pl (fill i) i w s)) ∙ is)
      where
        fits : (w : Work) → slice_get pl.items i ≡ Some w → not (is_wait w.kind) ≡ true → (d : Bool) → w.deferred ≡ d →
            (d || (s.place == i)) ≡ true → is_waiting d (s.condition i) ≡ true →
            (a : _) (v : _) → Fits w i s.place (Opened a v)
        fits w e wait true is k waits a v =
            let mine = ok.items i w e in
            let h = λ (at : i ≡ s.place). waiting_touched (s.condition i) waits
            ((not_open_here _ w.deferred (is_wait w.kind) _ (mine.here at)).0 is) in
            let b = λ (lt : s.place < i). waiting_touched (s.condition i) waits (mine.beyond lt) in
            record {
              behind = λ g lt. differ w.deferred is g;
              here = λ at. absurd (h at);
              beyond = λ lt. absurd (b lt);
            }
        fits w e wait false is k waits a v =
            let at = eqb-true s.place i k in
            record {
              behind = λ g lt. absurd (omega arith);
              here = λ l. and_from (not w.deferred) _ (ap not is) (and_from (not (is_wait w.kind)) true wait refl);
              beyond = λ lt. absurd (omega arith);
            }

        go : (w : Work) → slice_get pl.items i ≡ Some w → not (is_wait w.kind) ≡ true →
            (w.deferred || (s.place == i)) ≡ true → is_waiting w.deferred (s.condition i) ≡ true → (o : Option Memories) →
            option_map (λ m. with_condition i
            (Opened (captured_by (s.condition i) s.scalars) (worked_on pl.lengths w.kind m)) (with_memories w.device m s)) o
            ≡ Some t → Further s t
        go w e wait may' waits None h = absurd (cc h)
        go w e wait may' waits (Some m) h =
            let low = had_waiting w.deferred (s.condition i) waits in
            let c : Condition = Opened (captured_by (s.condition i) s.scalars) (worked_on pl.lengths w.kind m) in
            let u : State = with_condition i c (with_memories w.device m s) in
            subst (Further s) (same_Some u t h)
            (further_same s u i w c ok (going_on (Open i) may) e refl (λ j. refl) (omega arith)
            (fits w e wait w.deferred refl may' waits _ _))

    closed : (i : ℕ) → enabled pl s (Close i) ≡ true → step pl fill s (Close i) ≡ Some t → Further s t
    closed i may is =
        let f = on_true pl i (λ w. is_open (s.condition i)) may in
        go f.0 f.1 f.2 (closing f.0 (s.condition i) s) refl (sym
        (at_item pl i f.0 f.1 None (λ w. option_map (λ t. moved_on w.deferred (with_condition i Closed t))
        (closing w (s.condition i) s)))
        ∙ is)
      where
        go : (w : Work) → slice_get pl.items i ≡ Some w → is_open (s.condition i) ≡ true →
            (o : Option State) → closing w (s.condition i) s ≡ o →
            option_map (λ t. moved_on w.deferred (with_condition i Closed t)) o ≡ Some t → Further s t
        go w e isopen None k h = absurd (cc h)
        go w e isopen (Some u) k h =
            subst (Further s) (same_Some (moved_on w.deferred (with_condition i Closed u)) t h) (by w.deferred refl)
          where
            kept : Kept s u
            kept = closing_keeps w (s.condition i) s u k

            two : had (s.condition i) ≡ 2
            two = had_open (s.condition i) isopen

            conditions : (j : ℕ) → (if j == i then Closed else u.condition j) ≡ (if j == i then Closed else s.condition j)
            conditions j = ap (λ (g : ℕ → Condition). if j == i then Closed else g j) kept.1

            mine : Fits w i s.place (s.condition i)
            mine = ok.items i w e

            not_beyond : s.place < i → ⊥
            not_beyond lt = open_touched (s.condition i) isopen (mine.beyond lt)

            by : (b : Bool) → w.deferred ≡ b → Further s (moved_on b (with_condition i Closed u))
            by true d =
                further_same s (with_condition i Closed u) i w Closed ok (going_on (Close i) may) e kept.0 conditions
                (let x = two in omega arith)
                (record {
                  behind = λ g lt. differ w.deferred d g;
                  here = λ at. absurd (open_touched (s.condition i) isopen
                      ((not_open_here _ w.deferred (is_wait w.kind) _ (mine.here at)).0 d));
                  beyond = λ lt. absurd (not_beyond lt);
                })
            by false d =
                let here : i ≡ s.place = squeeze i s.place
                (λ lt. differ (is_open (s.condition i)) isopen (mine.behind d lt)) not_beyond in
                further_next s (moved_on false (with_condition i Closed u)) i w Closed ok here e (ap (λ n. n + 1) kept.0)
                conditions (let x = two in omega arith) (λ g. refl)

    one_more : (e : Event) → enabled pl s e ≡ true → step pl fill s e ≡ Some t → Further s t
    one_more (Gen i) may is = generated i may is
    one_more (Open i) may is = opened i may is
    one_more (Step i) may is = absurd (false≢true may)
    one_more (Close i) may is = closed i may is
    one_more (Wait i) may is = passed i may is
    one_more End may is = ended may is

  -- what holds after events of a run
  record After (events : List Event) (s t : State) : Type 0 where
    fine : Fine t
    more : length events + events_had s ≤ events_had t

  all_more : (events : List Event) (s t : State) → Fine s → Run pl fill (Some s) events (Some t) → After events s t
  all_more [] s t ok r =
      let same : s ≡ t = same_Some s t (sym r) in
      subst (After [] s) same (record { fine = ok; more = omega arith })
  all_more (e ∷ rest) s t ok r = go (step pl fill s e) refl r.1 (λ u h k. all_more rest u t h k)
    where
      go : (o : Option State) → step pl fill s e ≡ o → Run pl fill o rest (Some t) →
          ((u : State) → Fine u → Run pl fill (Some u) rest (Some t) → After rest u t) → After (e ∷ rest) s t
      go (Some u) is k later =
          let f = one_more s ok u e r.0 is in
          let a = later u f.fine k in
          record { fine = a.fine; more = (let x = f.more in let y = a.more in omega arith) }
      go None is k later = failed rest k
        where
          failed : (events : List Event) → Run pl fill None events (Some t) → After (e ∷ rest) s t
          failed [] h = absurd (cc h)
          failed (x ∷ xs) h = absurd h

  begins : (input : List ℕ) → Fine (start input)
  begins input = record {
    top = omega arith;
    last = λ k. absurd (omega arith);
    items = λ j w e. record {
      behind = λ d lt. absurd (omega arith);
      here = λ k. refl;
      beyond = λ lt. refl;
    };
  }

  module _ (input : List ℕ) (events : List Event) (s : State) (ran : RunFrom pl fill input events (Some s)) where
    ran_so : After events (start input) s
    ran_so = all_more events (start input) s (begins input) ran

    pub is_fine : Fine s
    is_fine = ran_so.fine

    -- at most three events an item, and the end
    pub few_events : (HasEnded pl s → ⊥) → length events < 3 * length pl.items + 1
    few_events going =
        let m = ran_so.more in
        let a = three_each s.condition (length pl.items) in
        let t = is_fine.top in
        let b : s.place ≤ length pl.items = less_top s.place (length pl.items) t going in
        omega arith
      where
        less_top : (place n : ℕ) → place ≤ n + 1 → (place ≡ n + 1 → ⊥) → place ≤ n
        less_top place n t h = omega arith

    pub nothing_after : HasEnded pl s → (e : Event) → enabled pl s e ≡ true → ⊥
    nothing_after ended e may = nothing_more s is_fine ended e may
