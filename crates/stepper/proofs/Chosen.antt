-- The event that a choice takes, of the state that the code's values show.
use Rattle.std.proofs.Common.{◌≡◌, ℕ, ◌%◌, ◌<◌, true, false, List, [], ◌∷◌, ◌++◌, length, refl, sym, ap, ◌∙◌, arith, Option, Some, None}
use Rattle.std.specs.Prelude.{option_map, slice_get}
use Rattle.std.proofs.lemmas.Bool.{false≢true}
use Rattle.std.proofs.lemmas.Option.{slice_get_within}
use Rattle.base.specs.declared.item.Event.{Event}
use Rattle.base.specs.declared.item.Event.TheVariants.{Gen, Open, Step, Close, Wait, End}
use Rattle.base.specs.Items.{Plan}
use Rattle.base.specs.Machine.{first_or_zero, is_open}
use Rattle.two_memories.proofs.PlanItems.{on_true}
use Rattle.fine_machine.specs.Machine.{State, Condition, Untouched, Generated, Opened, Closed, Passed, all_enabled, whole_condition}
use Rattle.taskgraph.specs.Board.{allows}
use Rattle.device.specs.Allowed.{allowed_at}
use Rattle.device.proofs.Choices.{filter_holds}
use Rattle.stepper.specs.declared.standing.Slot.{Slot}
use Rattle.stepper.specs.declared.standing.Slot.TheVariants as slot
use Rattle.stepper.specs.declared.standing.Standing.{Standing}
use Rattle.stepper.specs.Answering.{next_by}
use Rattle.stepper.specs.Standing.{IsAt, IsActing, IsAtRest, Keeps, place_of}
use Rattle.stepper.proofs.NextEvents.{allowed, closings, event_for, host, next_count, nth_next, of_condition, openings}

-- of an open item, by what is kept for it
acts_next : (i : ℕ) (lengths : List ℕ) (c : Condition) (o : Option Slot) → is_open (whole_condition c) ≡ true →
    Keeps lengths c o → IsActing o → of_condition i c ≡ Step i
acts_next i lengths (Opened left) (Some (slot.Opened control)) h kept acting =
    ap (λ l. of_condition i (Opened l)) (kept.is ∙ (acting kept.stopped).1.1.1)
acts_next i lengths (Opened left) (Some (slot.Captured scalars)) h kept acting = absurd kept
acts_next i lengths (Opened left) (Some slot.Nothing) h kept acting = absurd kept
acts_next i lengths (Opened left) None h kept acting = absurd kept
acts_next i lengths Untouched o h kept acting = absurd (false≢true h)
acts_next i lengths (Generated captured) o h kept acting = absurd (false≢true h)
acts_next i lengths Closed o h kept acting = absurd (false≢true h)
acts_next i lengths Passed o h kept acting = absurd (false≢true h)

closes_next : (i : ℕ) (lengths : List ℕ) (c : Condition) (o : Option Slot) → is_open (whole_condition c) ≡ true →
    Keeps lengths c o → IsAtRest o → of_condition i c ≡ Close i
closes_next i lengths (Opened left) (Some (slot.Opened control)) h kept rests =
    ap (λ l. of_condition i (Opened l)) (kept.is ∙ rests kept.stopped)
closes_next i lengths (Opened left) (Some (slot.Captured scalars)) h kept rests = absurd kept
closes_next i lengths (Opened left) (Some slot.Nothing) h kept rests = absurd kept
closes_next i lengths (Opened left) None h kept rests = absurd kept
closes_next i lengths Untouched o h kept rests = absurd (false≢true h)
closes_next i lengths (Generated captured) o h kept rests = absurd (false≢true h)
closes_next i lengths Closed o h kept rests = absurd (false≢true h)
closes_next i lengths Passed o h kept rests = absurd (false≢true h)

module _ (p : Plan) (now : Standing) (s : State) (at : IsAt p now s) (going : now.ended ≡ false) where
  abbrev listed : List Event
  listed = allowed_at now.graph (length now.graph.tasks)

  place : s.place ≡ now.graph.place
  place = at.place ∙ ap (λ v. place_of v now.graph.place) going

  pub none_at : (k : ℕ) → slice_get listed k ≡ None → None ≡ slice_get (all_enabled p s) k
  none_at k h = sym (nth_next p s now.graph at.graph place k ∙ ap (option_map (event_for s)) h)

  one_at : (k : ℕ) (d e : Event) → slice_get listed k ≡ Some d → event_for s d ≡ e →
      Some e ≡ slice_get (all_enabled p s) k
  one_at k d e h for = sym (nth_next p s now.graph at.graph place k ∙ ap (option_map (event_for s)) h ∙ ap Some for)

  -- an item that may be closed is open
  opened : (k i : ℕ) → slice_get listed k ≡ Some (Close i) →
      (i < length p.items) × (is_open (whole_condition (s.condition i)) ≡ true)
  opened k i h =
      let n = length now.graph.tasks in
      let may = filter_holds (allows now.graph) (closings 0 n ++ (openings 0 n ++ host now.graph.place)) k (Close i) h
      in
      let f = on_true p i (λ w. is_open (whole_condition (s.condition i)))
      (sym (allowed p s now.graph at.graph place (Close i)) ∙ may) in
      (slice_get_within p.items i f.0 f.1, f.2)

  pub action_at : (k i : ℕ) → slice_get listed k ≡ Some (Close i) → IsActing (slice_get now.slots.items i) →
      Some (Step i) ≡ slice_get (all_enabled p s) k
  action_at k i h acting =
      let o = opened k i h in
      one_at k (Close i) (Step i) h
      (acts_next i p.lengths (s.condition i) (slice_get now.slots.items i) o.1 (at.kept i o.0) acting)

  pub closing_at : (k i : ℕ) → slice_get listed k ≡ Some (Close i) → IsAtRest (slice_get now.slots.items i) →
      Some (Close i) ≡ slice_get (all_enabled p s) k
  closing_at k i h rests =
      let o = opened k i h in
      one_at k (Close i) (Close i) h
      (closes_next i p.lengths (s.condition i) (slice_get now.slots.items i) o.1 (at.kept i o.0) rests)

  pub other_at : (k : ℕ) (e : Event) → slice_get listed k ≡ Some e → ((i : ℕ) → e ≡ Close i → ⊥) →
      Some e ≡ slice_get (all_enabled p s) k
  other_at k e h other = one_at k e e h (same e other)
    where
      same : (e : Event) → ((i : ℕ) → e ≡ Close i → ⊥) → event_for s e ≡ e
      same (Close i) other = absurd (other i refl)
      same (Gen i) other = refl
      same (Open i) other = refl
      same (Step i) other = refl
      same (Wait i) other = refl
      same End other = refl

  pub none_next : (choices : List ℕ) → length listed ≡ 0 → None ≡ next_by p s choices
  none_next choices h =
      sym (nothing (all_enabled p s) (first_or_zero choices) (next_count p s now.graph at.graph place ∙ h))
    where
      nothing : (es : List Event) (c : ℕ) → length es ≡ 0 → slice_get es (c % length es) ≡ None
      nothing [] c h = refl
      nothing (e ∷ es) c h = absurd (omega (arith, h))

  pub counted_around : (choices : List ℕ) (c count : ℕ) (o : Option Event) → c ≡ first_or_zero choices →
      count ≡ length listed → o ≡ slice_get (all_enabled p s) (c % count) → o ≡ next_by p s choices
  counted_around choices c count o is long h =
      h ∙ (λ j. slice_get (all_enabled p s) (is j % ((long ∙ sym (next_count p s now.graph at.graph place)) j)))
