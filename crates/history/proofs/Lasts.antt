-- The event that made a cell stale last.
use Rattle.std.proofs.Common.{◌≡◌, ℕ, ◌∙◌, List, Option, Some, None, Bor, ap, length, option_copied, subst, sym}
use Rattle.std.specs.Prelude.{IfSome, slice_get}
use Rattle.std.specs.Slice.{IsItemAt}
use Rattle.std.proofs.Common.{ltb-false}
use Rattle.std.proofs.lemmas.Option.{slice_get-get_or, slice_get_past}
use Rattle.history.specs.declared.Event.{Event}
use Rattle.history.specs.declared.History.{History}
use Rattle.history.specs.declared.Side.{Side}
use Rattle.history.specs.declared.Side.TheVariants.{Host, Device}
use Rattle.history.specs.declared.State.TheVariants.{Stale}
use Rattle.history.specs.Places.{Places, place_of}
use Rattle.history.specs.Since.{AreSince, HasEvent, IsKept, IsLast, IsSince}

-- where a stale state is kept of a side, it has an event
pub stale_has : (past : ℕ → Places) (n : ℕ) (h : History) (side : Side) (number : ℕ) → AreSince past n h → IsKept side (Stale number) h →
    HasEvent (λ k. place_of side (past k)) n h.events.items number
stale_has past n h Host number are kept = subst (λ s. IsSince (λ k. (past k).host) n h.events.items s) kept are.host
stale_has past n h (Device d) number are kept = are.devices d (Stale number) kept

pub last_of : (past : ℕ → Places) (n : ℕ) (h : History) (side : Side) (number : ℕ) (o : Option Event) →
    AreSince past n h → IsKept side (Stale number) h → o ≡ slice_get h.events.items number → IfSome o (IsLast (λ k. place_of side (past k)) n)
last_of past n h side number o are kept is =
    let has = stale_has past n h side number are kept in
    subst (λ x. IfSome x (IsLast (λ k. place_of side (past k)) n)) (sym (is ∙ has.is)) (record { by = has.by; since = has.since })

-- and it is told
pub one_told : (past : ℕ → Places) (n : ℕ) (h : History) (side : Side) (number : ℕ) (o : Option Event) (P : Type 0) →
    AreSince past n h → IsKept side (Stale number) h → o ≡ slice_get h.events.items number → o ≡ None → P
one_told past n h side number o P are kept is none =
    let has = stale_has past n h side number are kept in
    absurd (some_none has.event (sym (is ∙ has.is) ∙ none))
  where
    some_none : (e : Event) → Some e ≡ None → ⊥
    some_none e x = absurd cc

-- what is read of a list, copied
pub got_copied : {X : Type 0} (xs : List X) (i : ℕ) (r : Option (Bor X)) → IsItemAt xs i r → option_copied r ≡ slice_get xs i
got_copied xs i None h = sym (slice_get_past xs i (ltb-false i (length xs) (sym h.0)))
got_copied xs i (Some x) h = sym (slice_get-get_or xs i x.now h.3.0 ∙ ap Some (sym h.1))
