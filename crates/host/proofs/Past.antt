-- An item for workers that was opened may not be opened again.
use Rattle.std.proofs.Common.{◌≡◌, ◌⊎◌, ℕ, zero, suc, ◌+◌, ◌≤◌, ◌++◌, Bool, true, false, List, [], ◌∷◌, refl, sym, ap, ◌∙◌, subst, arith, append_assoc, Option, Some, None, inl, inr}
use Rattle.std.specs.Prelude.{◌==◌, if◌then◌else◌}
use Rattle.std.proofs.lemmas.Bool.{true≢false, eqb-true}
use Rattle.std.proofs.lemmas.Option.{same_Some}
use Rattle.base.specs.declared.item.Event.{Event}
use Rattle.base.specs.declared.item.Event.TheVariants.{Gen, Open, Step, Close, Wait, End}
use Rattle.base.specs.Items.{Plan}
use Rattle.base.specs.Map.{Fill}
use Rattle.base.specs.Machine.{State, Run, RunFrom, enabled, start, step}
use Rattle.base.proofs.Runs.{Run-append}
use Rattle.device.proofs.EventBounds.{is_fine, nothing_after}
use Rattle.host.proofs.Sending.{times_append}
use Rattle.host.proofs.Turns.{Turned, is_past, turned, may_open}
use Rattle.host.specs.Handing.{handed, handed_by}
use Rattle.host.specs.Idle.{is_for_workers}
use Rattle.host.specs.Once.{times}

-- an event hands out the item that it opens, if any
handed_item : (p : Plan) (i : ℕ) (e : Event) → 1 ≤ times i (handed_by p e) → e ≡ Open i
handed_item p i (Gen j) h = absurd (omega arith)
handed_item p i (Step j) h = absurd (omega arith)
handed_item p i (Close j) h = absurd (omega arith)
handed_item p i (Wait j) h = absurd (omega arith)
handed_item p i End h = absurd (omega arith)
handed_item p i (Open j) h = go (is_for_workers p (Open j)) h
  where
    go : (b : Bool) → 1 ≤ times i (if b then j ∷ [] else []) → ◌≡◌ {A = Event} (Open j) (Open i)
    go false h = absurd (omega arith)
    go true h = by (j == i) refl h
      where
        by : (c : Bool) → (j == i) ≡ c → 1 ≤ times i (j ∷ []) → ◌≡◌ {A = Event} (Open j) (Open i)
        by true e h = ap (λ n. Open n) (eqb-true j i e)
        by false e h =
            let none : times i (j ∷ []) ≡ 0 = ap (λ (b : Bool). (if b then 1 else 0) + 0) e in
            absurd (omega (arith, none, h))

one_of_two : (a b : ℕ) → 1 ≤ a + b → (1 ≤ a) ⊎ (1 ≤ b)
one_of_two (suc a) b h = inl (omega arith)
one_of_two zero b h = inr (omega arith)

module _ (pl : Plan) (fill : ℕ → Fill) (input : List ℕ) where
  -- what events leave behind
  record Passed (events : List Event) (s t : State) : Type 0 where
    past : (j : ℕ) → is_past (s.condition j) ≡ true → is_past (t.condition j) ≡ true
    opened : (i : ℕ) → 1 ≤ times i (handed pl events) → is_past (t.condition i) ≡ true

  passed : (before events : List Event) (s t : State) → RunFrom pl fill input before (Some s) →
      Run pl fill (Some s) events (Some t) → Passed events s t
  passed before [] s t ran r = record {
    past = λ j h. subst (λ (x : State). is_past (x.condition j) ≡ true) (sym (same_Some t s r)) h;
    opened = λ i h. absurd (omega arith);
  }
  passed before (e ∷ rest) s t ran r =
      go (step pl fill s e) refl r.1 (λ u first k. passed (before ++ e ∷ []) rest u t first k)
    where
      go : (o : Option State) → step pl fill s e ≡ o → Run pl fill o rest (Some t) →
          ((u : State) → RunFrom pl fill input (before ++ e ∷ []) (Some u) → Run pl fill (Some u) rest (Some t) →
          Passed rest u t) → Passed (e ∷ rest) s t
      go None is k later = failed rest k
        where
          failed : (events : List Event) → Run pl fill None events (Some t) → Passed (e ∷ rest) s t
          failed [] h = absurd (cc h)
          failed (x ∷ xs) h = absurd h
      go (Some u) is k later =
          record {
            past = λ j h. after.past j (now.past j h);
            opened = λ i h. by i (one_of_two (times i (handed_by pl e)) (times i (handed pl rest)) (split i h));
          }
        where
          now : Turned pl fill s u e
          now = turned pl fill s (is_fine pl fill input before s ran) (λ ended. nothing_after pl fill input before s ran ended e r.0) u e r.0 is

          after : Passed rest u t
          after = later u (Run-append pl fill (Some (start input)) before (e ∷ []) (Some s) (Some u) ran (r.0, sym is)) k

          split : (i : ℕ) → 1 ≤ times i (handed pl (e ∷ rest)) → 1 ≤ times i (handed_by pl e) + times i (handed pl rest)
          split i h = let a = times_append i (handed_by pl e) (handed pl rest) in omega (arith, a, h)

          by : (i : ℕ) → (1 ≤ times i (handed_by pl e)) ⊎ (1 ≤ times i (handed pl rest)) → is_past (t.condition i) ≡ true
          by i (inl h) = after.past i (now.opened i (handed_item pl i e h))
          by i (inr h) = after.opened i h

  -- an item that may be opened was not opened for a worker before
  pub opened_once : (events : List Event) (s : State) (i : ℕ) → RunFrom pl fill input events (Some s) →
      enabled pl s (Open i) ≡ true → times i (handed pl events) ≡ 0
  opened_once events s i ran may = none (times i (handed pl events)) (λ h. true≢false (sym (all.opened i h) ∙ may_open pl s i may))
    where
      all : Passed events (start input) s
      all = passed [] events (start input) s refl ran

      none : (n : ℕ) → (1 ≤ n → ⊥) → n ≡ 0
      none n h = omega arith

-- what one event more hands out
pub handed_next : (p : Plan) (events : List Event) (e : Event) → handed p (events ++ e ∷ []) ≡ handed p events ++ handed_by p e
handed_next p [] e = one (handed_by p e)
  where
    one : (xs : List ℕ) → xs ++ [] ≡ xs
    one [] = refl
    one (x ∷ xs) = ap (λ ys. x ∷ ys) (one xs)
handed_next p (x ∷ xs) e =
    ap (λ ys. handed_by p x ++ ys) (handed_next p xs e) ∙ sym (append_assoc (handed_by p x) (handed p xs) (handed_by p e))
