-- Where a history says that its cell is current, as moves come to it.
use Rattle.std.proofs.Common.{◌≡◌, ℕ, ◌+◌, ◌<◌, ◌==◌, ◌≢◌, eqb-true, Bool, true, false, List, [], ◌∷◌, length, Some, refl, sym, ap, ◌∙◌, subst, arith, suc, zero}
use Rattle.std.proofs.lemmas.Bool.{eqb-false}
use Rattle.std.specs.Prelude.{slice_get, slice_set, not, ◌&&◌, nat_lt, if◌then◌else◌}
use mathlib.Core.Path.{fun_ext}
use Rattle.history.specs.declared.History.{History}
use Rattle.history.specs.declared.Side.{Side}
use Rattle.history.specs.declared.Side.TheVariants.{Host, Device}
use Rattle.history.specs.declared.State.{State}
use Rattle.history.specs.Moves.{IsSet, is_device, spoiled_below}
use Rattle.history.proofs.Standing.{set_elsewhere}
use Rattle.std.proofs.lemmas.Bool.Decides.{nat_tests}
use Rattle.history.specs.Places.{IsSide, Places, is_current, is_current_in, place_of, shown, with_place}

set_same : {X : Type 0} (xs : List X) (a : ℕ) (s : X) → a < length xs → slice_get (slice_set xs a s) a ≡ Some s
set_same [] a s h = absurd (omega (arith, h))
set_same (x ∷ xs) zero s h = refl
set_same (x ∷ xs) (suc a) s h = set_same xs a s (omega (arith, h))

-- one state of the four set
set_at : (xs : List State) (a : ℕ) (s : State) → a < length xs → (d : ℕ) →
    is_current_in (slice_get (slice_set xs a s) d) ≡ (if d == a then is_current s else is_current_in (slice_get xs d))
set_at xs a s h d = go (d == a) refl
  where
    go : (b : Bool) → (d == a) ≡ b → is_current_in (slice_get (slice_set xs a s) d) ≡ (if b then is_current s else is_current_in (slice_get xs d))
    go true e = ap is_current_in (ap (λ k. slice_get (slice_set xs a s) k) (eqb-true d a e) ∙ set_same xs a s h)
    go false e = ap is_current_in (set_elsewhere xs a d s (eqb-false d a e))

pub shown_set : (side : Side) (s : State) (old new : History) → IsSide side → IsSet side s old.host old.devices.items new →
    shown new ≡ with_place side (is_current s) (shown old)
shown_set Host s old new here set = λ i. record {
  host = is_current (set.0 i);
  devices = λ d. is_current_in (slice_get (set.1 i) d);
}
shown_set (Device a) s old new here set =
    (λ i. record { host = is_current (set.0 i); devices = λ d. is_current_in (slice_get (set.1 i) d) })
    ∙ (λ i. record {
      host = is_current old.host;
      devices = fun_ext (λ (d : ℕ). set_at old.devices.items a s (subst (λ n. a < n) (sym old.count) here) d) i;
    })

-- a side takes the value of another
pub shown_copy : (to from : Side) (s : State) (old new : History) → IsSide to → IsSet to s old.host old.devices.items new → is_current s ≡ place_of from (shown old) →
    shown new ≡ with_place to (place_of from (shown old)) (shown old)
shown_copy to from s old new here set is = shown_set to s old new here set ∙ ap (λ b. with_place to b (shown old)) is

-- one device more that is not this side
pub below_next : (k : ℕ) (side : Side) (p : Places) → is_device side k ≡ false →
    with_place (Device k) false (spoiled_below k side p) ≡ spoiled_below (k + 1) side p
below_next k side p other = λ i. record { host = p.host; devices = fun_ext at i }
  where
    at : (e : ℕ) → (if e == k then false else not (nat_lt e k && not (is_device side e)) && p.devices e)
        ≡ (not (nat_lt e (k + 1) && not (is_device side e)) && p.devices e)
    at e = go (e == k) refl
      where
        go : (b : Bool) → (e == k) ≡ b → (if b then false else not (nat_lt e k && not (is_device side e)) && p.devices e)
            ≡ (not (nat_lt e (k + 1) && not (is_device side e)) && p.devices e)
        go true e' =
            let same : e ≡ k = eqb-true e k e' in
            let low : nat_lt e (k + 1) ≡ true = grind (arith, nat_tests) in
            let here : is_device side e ≡ false = ap (is_device side) same ∙ other in
            sym ((λ i. not (low i && not (here i)) && p.devices e))
        go false e' =
            let far : e ≢ k = eqb-false e k e' in
            let low : nat_lt e (k + 1) ≡ nat_lt e k = grind (arith, nat_tests) in
            λ i. not (sym low i && not (is_device side e)) && p.devices e

none : (b : Bool) → (b && false) ≡ false
none true = refl
none false = refl

-- this side is left out
pub below_same : (k : ℕ) (side : Side) (p : Places) → is_device side k ≡ true → spoiled_below k side p ≡ spoiled_below (k + 1) side p
below_same k side p own = λ i. record { host = p.host; devices = fun_ext at i }
  where
    at : (e : ℕ) → (not (nat_lt e k && not (is_device side e)) && p.devices e) ≡ (not (nat_lt e (k + 1) && not (is_device side e)) && p.devices e)
    at e = go (e == k) refl
      where
        go : (b : Bool) → (e == k) ≡ b → (not (nat_lt e k && not (is_device side e)) && p.devices e)
            ≡ (not (nat_lt e (k + 1) && not (is_device side e)) && p.devices e)
        go true e' =
            let here : is_device side e ≡ true = ap (is_device side) (eqb-true e k e') ∙ own in
            (λ i. not (nat_lt e k && not (here i)) && p.devices e)
            ∙ ap (λ b. not b && p.devices e) (none (nat_lt e k) ∙ sym (none (nat_lt e (k + 1))))
            ∙ (λ i. not (nat_lt e (k + 1) && not (sym here i)) && p.devices e)
        go false e' =
            let far : e ≢ k = eqb-false e k e' in
            let low : nat_lt e (k + 1) ≡ nat_lt e k = grind (arith, nat_tests) in
            λ i. not (sym low i && not (is_device side e)) && p.devices e

pub are_other : (a b : ℕ) → a ≢ b → (a == b) ≡ false
are_other a b h = go (a == b) refl
  where
    go : (x : Bool) → (a == b) ≡ x → (a == b) ≡ false
    go true e = absurd (h (eqb-true a b e))
    go false e = e

pub are_same : (a b : ℕ) → a ≡ b → (a == b) ≡ true
are_same a b h = go (a == b) refl
  where
    go : (x : Bool) → (a == b) ≡ x → (a == b) ≡ true
    go true e = e
    go false e = absurd (eqb-false a b e h)
