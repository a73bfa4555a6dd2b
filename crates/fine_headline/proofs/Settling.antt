-- An event keeps what items have entered and rest settled.
use Rattle.std.proofs.Common.{◌≡◌, ◌⊎◌, ℕ, zero, suc, ◌==◌, Bool, true, false, List, [], ◌∷◌, ◌++◌, Some, refl, sym, ◌∙◌, ap, inl, inr, subst}
use Rattle.std.specs.Prelude.{slice_get, filter, if◌then◌else◌}
use Rattle.std.proofs.lemmas.Bool.{false≢true, cases_eq, cond-true, cond-false, cond_both, eq-eqb, ne_eqb}
use Rattle.base.specs.declared.item.MapItem.{MapItem}
use Rattle.base.specs.Items.{Work, Plan}
use Rattle.base.specs.Machine.{is_wait}
use Rattle.base.specs.Actions.{rests}
use Rattle.base.specs.Accepted.{is_target}
use Rattle.base.specs.declared.item.ItemKind.{ItemKind}
use Rattle.base.specs.declared.item.ItemKind.TheVariants as kind
use Rattle.fine_machine.specs.Left.{Request, Load, Store, Combine, Enter, Leave, Remove, CopyIn, CopyOut}
use Rattle.fine_machine.specs.Machine.{Condition}
use Rattle.two_memories.specs.Two.{resting_maps, blocks_before}
use Rattle.two_memories.proofs.PlanItems.{at_item}
use Rattle.fine_headline.specs.FineState.{is_resting, entered_now, all_but_first, AreResting, OwnEntry, IsSettled, AreSettled}

module _ (plan : Plan) (i : ℕ) (m : ℕ → List MapItem) (f : ℕ → Condition) (h : AreSettled plan m f) where
  pub settled_with : (c : Condition) → IsSettled plan i (m i) c → AreSettled plan m (λ k. if k == i then c else f k)
  settled_with c s = record { resting = h.resting; settled = λ k. go k (cases_eq k i) }
    where
      go : (k : ℕ) → (k ≡ i) ⊎ (k ≡ i → ⊥) → IsSettled plan k (m k) (if k == i then c else f k)
      go k (inl e) =
          subst (IsSettled plan k (m k)) (sym (cond-true (k == i) c (f k) (eq-eqb k i e)))
          (subst (λ j. IsSettled plan j (m j) c) (sym e) s)
      go k (inr n) = subst (IsSettled plan k (m k)) (sym (cond-false (k == i) c (f k) (ne_eqb k i n))) (h.settled k)

  pub settled_stepped : (ms : List MapItem) (c : Condition) → AreResting plan i ms → IsSettled plan i ms c →
      AreSettled plan (λ k. if k == i then ms else m k) (λ k. if k == i then c else f k)
  settled_stepped ms c r s = record { resting = λ k. rest k (cases_eq k i); settled = λ k. go k (cases_eq k i) }
    where
      rest : (k : ℕ) → (k ≡ i) ⊎ (k ≡ i → ⊥) → AreResting plan k (if k == i then ms else m k)
      rest k (inl e) =
          subst (AreResting plan k) (sym (cond-true (k == i) ms (m k) (eq-eqb k i e)))
          (subst (λ j. AreResting plan j ms) (sym e) r)
      rest k (inr n) = subst (AreResting plan k) (sym (cond-false (k == i) ms (m k) (ne_eqb k i n))) (h.resting k)

      go : (k : ℕ) → (k ≡ i) ⊎ (k ≡ i → ⊥) → IsSettled plan k (if k == i then ms else m k) (if k == i then c else f k)
      go k (inl e) =
          subst (λ x. IsSettled plan k x (if k == i then c else f k)) (sym (cond-true (k == i) ms (m k) (eq-eqb k i e)))
          (subst (IsSettled plan k ms) (sym (cond-true (k == i) c (f k) (eq-eqb k i e)))
          (subst (λ j. IsSettled plan j ms c) (sym e) s))
      go k (inr n) =
          subst (λ x. IsSettled plan k x (if k == i then c else f k))
          (sym (cond-false (k == i) ms (m k) (ne_eqb k i n)))
          (subst (IsSettled plan k (m k)) (sym (cond-false (k == i) c (f k) (ne_eqb k i n))) (h.settled k))

appended : (ms : List MapItem) (x m : MapItem) (k : ℕ) → slice_get (ms ++ x ∷ []) k ≡ Some m →
    ((j : ℕ) × (slice_get ms j ≡ Some m)) ⊎ (x ≡ m)
appended [] x m zero e = let is : x ≡ m = cc e in inr is
appended [] x m (suc k) e = absurd (cc e)
appended (y ∷ ms) x m zero e = inl (0, e)
appended (y ∷ ms) x m (suc k) e = go (appended ms x m k e)
  where
    go : ((j : ℕ) × (slice_get ms j ≡ Some m)) ⊎ (x ≡ m) → ((j : ℕ) × (slice_get (y ∷ ms) j ≡ Some m)) ⊎ (x ≡ m)
    go (inl p) = inl (suc p.0, p.1)
    go (inr q) = inr q

shortened : (ms : List MapItem) (m : MapItem) (k : ℕ) → slice_get (all_but_first ms) k ≡ Some m →
    (j : ℕ) × (slice_get ms j ≡ Some m)
shortened [] m k e = (k, e)
shortened (x ∷ ms) m k e = (suc k, e)

-- an action keeps that what is entered rests
pub still_resting : (plan : Plan) (i : ℕ) (r : Request) (ms : List MapItem) → OwnEntry plan i r → AreResting plan i ms →
    AreResting plan i (entered_now (is_resting plan i) r ms)
still_resting plan i (Enter x) ms own h = go (is_resting plan i x) refl
  where
    more : is_resting plan i x ≡ true → AreResting plan i (ms ++ x ∷ [])
    more e k m at = by (appended ms x m k at)
      where
        by : ((j : ℕ) × (slice_get ms j ≡ Some m)) ⊎ (x ≡ m) → (q : ℕ) × (slice_get (resting_maps plan i) q ≡ Some m)
        by (inl p) = h p.0 m p.1
        by (inr is) = subst (λ z. (q : ℕ) × (slice_get (resting_maps plan i) q ≡ Some z)) is (own e)

    go : (b : Bool) → is_resting plan i x ≡ b → AreResting plan i (if is_resting plan i x then ms ++ x ∷ [] else ms)
    go true e = subst (AreResting plan i) (sym (cond-true (is_resting plan i x) (ms ++ x ∷ []) ms e)) (more e)
    go false e = subst (AreResting plan i) (sym (cond-false (is_resting plan i x) (ms ++ x ∷ []) ms e)) h
still_resting plan i (Leave x) ms own h =
    cond_both (is_resting plan i x) (all_but_first ms) ms (AreResting plan i)
    (λ _ k m e. let p = shortened ms m k e in h p.0 m p.1) (λ _. h)
still_resting plan i (Load side c) ms own h = h
still_resting plan i (Store side c n) ms own h = h
still_resting plan i (Combine side op c n) ms own h = h
still_resting plan i (Remove s) ms own h = h
still_resting plan i (CopyIn c) ms own h = h
still_resting plan i (CopyOut c) ms own h = h

-- a wait rests in nothing
pub wait_empty : (plan : Plan) (i : ℕ) (w : Work) (ms : List MapItem) → slice_get plan.items i ≡ Some w →
    is_wait w.kind ≡ true → AreResting plan i ms → ms ≡ []
wait_empty plan i w [] at e h = refl
wait_empty plan i w (m ∷ ms) at e h =
    let q = h 0 m refl in
    let none : resting_maps plan i ≡ [] =
    at_item plan i w at [] (λ w. if is_target w.kind then filter (rests (blocks_before plan i)) w.maps else [])
    ∙ cond-false (is_target w.kind) (filter (rests (blocks_before plan i)) w.maps) [] (no_target w.kind e) in
    absurd (cc (ap (λ xs. slice_get xs q.0) (sym none) ∙ q.1))
  where
    no_target : (k : ItemKind) → is_wait k ≡ true → is_target k ≡ false
    no_target kind.Wait e = refl
    no_target kind.Host e = absurd (false≢true e)
    no_target kind.Target e = absurd (false≢true e)
    no_target kind.Begin e = absurd (false≢true e)
    no_target kind.End e = absurd (false≢true e)
    no_target kind.Enter e = absurd (false≢true e)
    no_target kind.Exit e = absurd (false≢true e)
    no_target kind.Update e = absurd (false≢true e)
