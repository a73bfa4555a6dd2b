-- Of the events that may happen next, the first, where a run in program order stands.
use Rattle.std.proofs.Common.{◌≡◌, ℕ, zero, suc, ◌+◌, ◌<◌, ◌≤◌, Bool, true, false, not, ◌&&◌, ◌||◌, ◌==◌, List, [], ◌∷◌, ◌++◌, map, length, Option, Some, None, refl, sym, ap, ◌∙◌, arith}
use Rattle.std.specs.Prelude.{cond, filter, slice_get}
use Rattle.std.specs.List.{range_with_len}
use Rattle.std.proofs.lemmas.Bool.{true≢false, eqb-true, eqb-false}
use Rattle.base.specs.declared.item.Event.{Event}
use Rattle.base.specs.declared.item.Event.TheVariants.{Gen, Open, Close, Wait, End}
use Rattle.base.specs.Items.{Work, Plan}
use Rattle.base.specs.Machine.{State, Condition, Untouched, Generated, Opened, Closed, Passed, all_enabled, enabled, is_closed, is_open, is_ready, is_wait, is_waiting}
use Rattle.headline.proofs.SoundConditions.{is_done}

-- the first of a list that passes a test
first_in : (q : Event → Bool) (f : ℕ → Event) (a n i : ℕ) (ys : List Event) → a ≤ i → i < a + n → q (f i) ≡ true →
    ((j : ℕ) → a ≤ j → j < i → q (f j) ≡ false) → slice_get (filter q (map f (range_with_len a n) ++ ys)) 0 ≡ Some (f i)
first_in q f a zero i ys le lt h none = absurd (omega (arith, le, lt))
first_in q f a (suc n) i ys le lt h none =
    go (q (f a)) refl (a == i) refl (λ l. first_in q f (a + 1) n i ys l (omega arith) h (λ j l m. none j (omega arith) m))
  where
    go : (b : Bool) → q (f a) ≡ b → (c : Bool) → (a == i) ≡ c →
        (a + 1 ≤ i → slice_get (filter q (map f (range_with_len (a + 1) n) ++ ys)) 0 ≡ Some (f i)) →
        slice_get (cond b (f a ∷ filter q (map f (range_with_len (a + 1) n) ++ ys))
        (filter q (map f (range_with_len (a + 1) n) ++ ys))) 0 ≡ Some (f i)
    go true e true c later = ap (λ k. Some (f k)) (eqb-true a i c)
    go true e false c later =
        let other = eqb-false a i c in
        absurd (true≢false (sym e ∙ none a (omega arith) (omega (arith, other))))
    go false e true c later = absurd (true≢false (sym h ∙ ap (λ k. q (f k)) (sym (eqb-true a i c)) ∙ e))
    go false e false c later = let other = eqb-false a i c in later (omega (arith, other))

skip_all : (q : Event → Bool) (f : ℕ → Event) (a n : ℕ) (ys : List Event) →
    ((j : ℕ) → a ≤ j → j < a + n → q (f j) ≡ false) → filter q (map f (range_with_len a n) ++ ys) ≡ filter q ys
skip_all q f a zero ys none = refl
skip_all q f a (suc n) ys none =
    ap (λ b. cond b (f a ∷ filter q (map f (range_with_len (a + 1) n) ++ ys))
    (filter q (map f (range_with_len (a + 1) n) ++ ys))) (none a (omega arith) (omega arith))
    ∙ skip_all q f (a + 1) n ys (λ j le lt. none j (omega arith) (omega arith))

module _ (pl : Plan) (s : State) where
  abbrev can : Event → Bool
  can = enabled pl s

  abbrev last : List Event
  last = Gen s.place ∷ Wait s.place ∷ End ∷ []

  abbrev openings : List Event
  openings = map Open (range_with_len 0 (length pl.items)) ++ last

  pub first_close : (i : ℕ) → i < length pl.items → can (Close i) ≡ true → ((j : ℕ) → j < i → can (Close j) ≡ false) →
      slice_get (all_enabled pl s) 0 ≡ Some (Close i)
  first_close i lt h none = first_in can Close 0 (length pl.items) i openings (omega arith) (omega arith) h (λ j l m. none j m)

  module _ (no_close : (j : ℕ) → can (Close j) ≡ false) where
    past_closings : all_enabled pl s ≡ filter can openings
    past_closings = skip_all can Close 0 (length pl.items) openings (λ j l m. no_close j)

    pub first_open : (i : ℕ) → i < length pl.items → can (Open i) ≡ true → ((j : ℕ) → j < i → can (Open j) ≡ false) →
        slice_get (all_enabled pl s) 0 ≡ Some (Open i)
    first_open i lt h none =
        ap (λ es. slice_get es 0) past_closings
        ∙ first_in can Open 0 (length pl.items) i last (omega arith) (omega arith) h (λ j l m. none j m)

    module _ (no_open : (j : ℕ) → can (Open j) ≡ false) where
      past_openings : all_enabled pl s ≡ filter can last
      past_openings = past_closings ∙ skip_all can Open 0 (length pl.items) last (λ j l m. no_open j)

      pub first_gen : (i : ℕ) → s.place ≡ i → can (Gen i) ≡ true → slice_get (all_enabled pl s) 0 ≡ Some (Gen i)
      first_gen i at h =
          ap (λ es. slice_get es 0) past_openings
          ∙ ap (λ b. slice_get (cond b (Gen s.place ∷ filter can (Wait s.place ∷ End ∷ []))
          (filter can (Wait s.place ∷ End ∷ []))) 0) (ap (λ k. can (Gen k)) at ∙ h)
          ∙ ap (λ k. Some (Gen k)) at

      pub first_wait : (i : ℕ) → s.place ≡ i → can (Gen i) ≡ false → can (Wait i) ≡ true →
          slice_get (all_enabled pl s) 0 ≡ Some (Wait i)
      first_wait i at g h =
          ap (λ es. slice_get es 0) past_openings
          ∙ ap (λ b. slice_get (cond b (Gen s.place ∷ filter can (Wait s.place ∷ End ∷ []))
          (filter can (Wait s.place ∷ End ∷ []))) 0) (ap (λ k. can (Gen k)) at ∙ g)
          ∙ ap (λ b. slice_get (cond b (Wait s.place ∷ filter can (End ∷ [])) (filter can (End ∷ []))) 0)
          (ap (λ k. can (Wait k)) at ∙ h)
          ∙ ap (λ k. Some (Wait k)) at

      pub first_end : (i : ℕ) → s.place ≡ i → can (Gen i) ≡ false → can (Wait i) ≡ false → can End ≡ true →
          slice_get (all_enabled pl s) 0 ≡ Some End
      first_end i at g w h =
          ap (λ es. slice_get es 0) past_openings
          ∙ ap (λ b. slice_get (cond b (Gen s.place ∷ filter can (Wait s.place ∷ End ∷ []))
          (filter can (Wait s.place ∷ End ∷ []))) 0) (ap (λ k. can (Gen k)) at ∙ g)
          ∙ ap (λ b. slice_get (cond b (Wait s.place ∷ filter can (End ∷ [])) (filter can (End ∷ []))) 0)
          (ap (λ k. can (Wait k)) at ∙ w)
          ∙ ap (λ b. slice_get (cond b (End ∷ []) []) 0) h

  -- why an item may not be closed, or opened
  pub no_closing : (j : ℕ) → ((w : Work) → slice_get pl.items j ≡ Some w → is_open (s.condition j) ≡ false) →
      can (Close j) ≡ false
  no_closing j h = go (slice_get pl.items j) refl
    where
      go : (o : Option Work) → slice_get pl.items j ≡ o → elim o [ None ↦ false | Some w ↦ is_open (s.condition j) ] ≡ false
      go None e = refl
      go (Some w) e = h w e

  pub no_opening : (j : ℕ) → ((w : Work) → slice_get pl.items j ≡ Some w →
      (not (is_wait w.kind) && ((w.deferred || (s.place == j)) && is_waiting w.deferred (s.condition j))) ≡ false) →
      can (Open j) ≡ false
  no_opening j h = go (slice_get pl.items j) refl
    where
      all_of : (a b c d : Bool) → (a && (b && c)) ≡ false → (a && (b && (c && d))) ≡ false
      all_of false b c d e = refl
      all_of true false c d e = refl
      all_of true true false d e = refl
      all_of true true true d e = absurd (true≢false e)

      go : (o : Option Work) → slice_get pl.items j ≡ o → elim o [
        | None ↦ false
        | Some w ↦ not (is_wait w.kind) && ((w.deferred || (s.place == j)) &&
            (is_waiting w.deferred (s.condition j) && is_ready pl s j))
      ] ≡ false
      go None e = refl
      go (Some w) e = all_of (not (is_wait w.kind)) (w.deferred || (s.place == j)) (is_waiting w.deferred (s.condition j))
          (is_ready pl s j) (h w e)

-- conditions in which no item is open
pub closed_not_open : (c : Condition) → is_closed c ≡ true → is_open c ≡ false
closed_not_open Closed h = refl
closed_not_open Untouched h = refl
closed_not_open (Generated s) h = refl
closed_not_open Passed h = refl
closed_not_open (Opened s v) h = absurd (true≢false (sym h))

pub done_not_open : (c : Condition) → is_done c ≡ true → is_open c ≡ false
done_not_open Closed h = refl
done_not_open Untouched h = refl
done_not_open (Generated s) h = refl
done_not_open Passed h = refl
done_not_open (Opened s v) h = absurd (true≢false (sym h))

pub closed_not_waiting : (c : Condition) → is_closed c ≡ true → is_waiting true c ≡ false
closed_not_waiting Closed h = refl
closed_not_waiting Untouched h = refl
closed_not_waiting (Opened s v) h = refl
closed_not_waiting Passed h = refl
closed_not_waiting (Generated s) h = absurd (true≢false (sym h))
