-- What made a cell stale last, as events come to it.
use Rattle.std.proofs.Common.{◌≡◌, ℕ, ◌+◌, ◌==◌, eqb-true, Bool, true, false, List, [], ◌∷◌, ◌++◌, Some, length, refl, sym, ap, ◌∙◌, subst, arith, suc, zero, ◌⊎◌, inl, inr, ⊎_elim}
use Rattle.std.proofs.lemmas.Bool.{eqb-false}
use Rattle.std.specs.Prelude.{Result, Ok, Err, OnOk, slice_get, slice_set}
use Rattle.history.specs.declared.Event.{Event}
use Rattle.history.specs.declared.How.{How}
use Rattle.history.specs.declared.How.TheVariants.{Never, Written, Created, Removed, Copied}
use Rattle.history.specs.declared.History.{History}
use Rattle.history.specs.declared.Side.{Side}
use Rattle.history.specs.declared.Side.TheVariants.{Host, Device}
use Rattle.history.specs.declared.State.{State}
use Rattle.history.specs.declared.State.TheVariants.{Current, Stale}
use Rattle.history.specs.Moves.{IsDeed, IsSet}
use Rattle.history.specs.Places.{Places, place_of}
use Rattle.history.specs.Since.{AreSince, IsSince, begins, begins_by}

-- an event keeps its number
kept : (events more : List Event) (number : ℕ) (e : Event) → slice_get events number ≡ Some e → slice_get (events ++ more) number ≡ Some e
kept [] more number e is = absurd cc
kept (x ∷ events) more zero e is = is
kept (x ∷ events) more (suc number) e is = kept events more number e is

-- the next event has the next number
pub newest : (events : List Event) (e : Event) → slice_get (events ++ e ∷ []) (length events) ≡ Some e
newest [] e = refl
newest (x ∷ events) e = newest events e

pub since_more : (past : ℕ → Bool) (n : ℕ) (events more : List Event) (s : State) → IsSince past n events s → IsSince past n (events ++ more) s
since_more past n events more Current h = tt
since_more past n events more (Stale number) h =
    record { event = h.event; is = kept events more number h.event h.is; by = h.by; since = h.since }

-- what an item did makes the cell stale before the items after it
begins_after : (how : How) (item : ℕ) → IsDeed how → begins_by how item ≡ item + 1
begins_after Never item h = absurd h
begins_after (Written side) item h = refl
begins_after (Created map) item h = refl
begins_after (Removed map) item h = refl
begins_after (Copied map side by) item h = refl

pub since_newest : (past : ℕ → Bool) (n : ℕ) (events : List Event) (e : Event) → e.item ≡ n → IsDeed e.how →
    IsSince past n (events ++ e ∷ []) (Stale (length events))
since_newest past n events e here deed =
    let b : begins e ≡ n + 1 = begins_after e.how e.item deed ∙ ap (λ k. k + 1) here in
    record { event = e; is = newest events e; by = omega (arith, b); since = λ k low high. absurd (omega (arith, b, low, high)) }

pub set_there : {X : Type 0} (xs : List X) (d : ℕ) (x s : X) → slice_get (slice_set xs d x) d ≡ Some s → s ≡ x
set_there [] d x s e = absurd cc
set_there (y ∷ xs) zero x s e = cc
set_there (y ∷ xs) (suc d) x s e = set_there xs d x s e

pub set_elsewhere : {X : Type 0} (xs : List X) (d k : ℕ) (x : X) → (k ≡ d → ⊥) → slice_get (slice_set xs d x) k ≡ slice_get xs k
set_elsewhere [] d k x other = refl
set_elsewhere (y ∷ xs) zero zero x other = absurd (other refl)
set_elsewhere (y ∷ xs) zero (suc k) x other = refl
set_elsewhere (y ∷ xs) (suc d) zero x other = refl
set_elsewhere (y ∷ xs) (suc d) (suc k) x other = set_elsewhere xs d k x (λ e. other (ap suc e))

append_none : {X : Type 0} (xs : List X) → xs ++ [] ≡ xs
append_none [] = refl
append_none (x ∷ xs) = ap (λ ys. x ∷ ys) (append_none xs)

-- one side has a state for which there is an event
pub since_set : (past : ℕ → Places) (n : ℕ) (side : Side) (s : State) (old new : History) (more : List Event) →
    IsSet side s old.host old.devices.items new → new.events.items ≡ old.events.items ++ more →
    IsSince (λ k. place_of side (past k)) n new.events.items s → AreSince past n old → AreSince past n new
since_set past n Host s old new more set grown here h = record {
  host = subst (IsSince (λ k. (past k).host) n new.events.items) (sym set.0) here;
  devices = λ d t is. subst (λ es. IsSince (λ k. (past k).devices d) n es t) (sym grown)
      (since_more (λ k. (past k).devices d) n old.events.items more t (h.devices d t (ap (λ xs. slice_get xs d) (sym set.1) ∙ is)));
}
since_set past n (Device a) s old new more set grown here h = record {
  host = subst (λ es. IsSince (λ k. (past k).host) n es new.host) (sym grown)
      (since_more (λ k. (past k).host) n old.events.items more new.host
      (subst (IsSince (λ k. (past k).host) n old.events.items) (sym set.0) h.host));
  devices = λ d t is. go d t (ap (λ xs. slice_get xs d) (sym set.1) ∙ is) (d == a) refl;
}
  where
    go : (d : ℕ) (t : State) → slice_get (slice_set old.devices.items a s) d ≡ Some t → (b : Bool) → (d == a) ≡ b →
        IsSince (λ k. (past k).devices d) n new.events.items t
    go d t is true e =
        let same : d ≡ a = eqb-true d a e in
        let there : t ≡ s = set_there old.devices.items a s t (ap (λ k. slice_get (slice_set old.devices.items a s) k) (sym same) ∙ is) in
        subst (λ i. IsSince (λ k. (past k).devices i) n new.events.items t) (sym same)
        (subst (IsSince (λ k. (past k).devices a) n new.events.items) (sym there) here)
    go d t is false e =
        subst (λ es. IsSince (λ k. (past k).devices d) n es t) (sym grown)
        (since_more (λ k. (past k).devices d) n old.events.items more t
        (h.devices d t (sym (set_elsewhere old.devices.items a d s (eqb-false d a e)) ∙ is)))

-- a side where the cell is current
pub since_current : (past : ℕ → Places) (n : ℕ) (side : Side) (old new : History) → IsSet side Current old.host old.devices.items new →
    new.events ≡ old.events → AreSince past n old → AreSince past n new
since_current past n side old new set same h =
    since_set past n side Current old new [] set (ap (λ es. es.items) same ∙ sym (append_none old.events.items)) tt h

-- an item makes a side stale
pub since_spoiled : (past : ℕ → Places) (n : ℕ) (side : Side) (e : Event) (old new : History) →
    new.events.items ≡ old.events.items ++ e ∷ [] → IsSet side (Stale (length old.events.items)) old.host old.devices.items new →
    e.item ≡ n → IsDeed e.how → AreSince past n old → AreSince past n new
since_spoiled past n side e old new grown set item deed h =
    since_set past n side (Stale (length old.events.items)) old new (e ∷ []) set grown
    (subst (λ es. IsSince (λ k. place_of side (past k)) n es (Stale (length old.events.items))) (sym grown)
    (since_newest (λ k. place_of side (past k)) n old.events.items e item deed)) h

-- at the start nothing was on a device
pub since_never : (past : ℕ → Bool) (events : List Event) (e : Event) → past 0 ≡ false → e.how ≡ Never →
    IsSince past 0 (events ++ e ∷ []) (Stale (length events))
since_never past events e none never =
    let b : begins e ≡ 0 = ap (λ how. begins_by how e.item) never in
    record {
      event = e;
      is = newest events e;
      by = omega (arith, b);
      since = λ k low high.
          let zero : k ≡ 0 = omega (arith, high) in ap past zero ∙ none;
    }

-- the last of a list, and the others
pub set_last : {X : Type 0} (xs : List X) (x s : X) (d : ℕ) → slice_get (xs ++ x ∷ []) d ≡ Some s → (slice_get xs d ≡ Some s) ⊎ ((d ≡ length xs) × (s ≡ x))
set_last [] x s zero e = inr (refl, cc)
set_last [] x s (suc d) e = absurd cc
set_last (y ∷ xs) x s zero e = inl e
set_last (y ∷ xs) x s (suc d) e = ⊎_elim (λ h. inl h) (λ h. inr (ap suc h.0, h.1)) (set_last xs x s d e)

-- one part of an item after another
pub since_then : {X : Type 0} {E : Type 0} (r : Result X E) (n : ℕ) (a b c : History) → ((past : ℕ → Places) → AreSince past n a → AreSince past n b) →
    OnOk r ((past : ℕ → Places) → AreSince past n b → AreSince past n c) → OnOk r ((past : ℕ → Places) → AreSince past n a → AreSince past n c)
since_then (Ok x) n a b c first second = λ past h. second past (first past h)
since_then (Err e) n a b c first second = tt
