-- Whether an event may happen next, of the state that the code's values show.
use Rattle.std.proofs.Common.{◌≡◌, ℕ, Bool, true, false, refl, sym, ap, ◌∙◌, Option, Some, None}
use Rattle.std.specs.Prelude.{not, slice_get}
use Rattle.std.proofs.lemmas.Bool.{false≢true, true≢false}
use Rattle.std.proofs.lemmas.Option.{slice_get_within}
use Rattle.base.specs.declared.item.Event.{Event}
use Rattle.base.specs.declared.item.Event.TheVariants.{Step, Close}
use Rattle.base.specs.Items.{Work, Plan}
use Rattle.base.specs.Machine.{is_open, on_item}
use Rattle.base.specs.Machine as two
use Rattle.taskgraph.specs.Board.{allows}
use Rattle.fine_machine.specs.Machine.{State, Condition, Untouched, Generated, Opened, Closed, Passed, as_whole, enabled, has_step, is_finished, whole_condition}
use Rattle.stepper.specs.declared.standing.Slot.{Slot}
use Rattle.stepper.specs.declared.standing.Slot.TheVariants as slot
use Rattle.stepper.specs.declared.standing.Standing.{Standing}
use Rattle.stepper.specs.Standing.{IsAt, IsActing, IsAtRest, Keeps, place_of}
use Rattle.stepper.proofs.Able.{Known, known}
use Rattle.stepper.proofs.AfterEnd.{nothing_enabled}
use Rattle.stepper.proofs.NextEvents.{allowed}

-- whether the item's next event is an action, and whether it is its closing
Is : Bool → Bool → Condition → Type 0
Is acts closes c = (has_step c ≡ acts) × (is_finished c ≡ closes)

acting : (lengths : _) (c : Condition) (o : Option Slot) → is_open (whole_condition c) ≡ true → Keeps lengths c o →
    IsActing o → Is true false c
unfolding Is
acting lengths (Opened left) (Some (slot.Opened control)) h kept acts =
    let is = kept.is ∙ (acts kept.stopped).1.1.1 in
    (ap (λ l. has_step (Opened l)) is, ap (λ l. is_finished (Opened l)) is)
acting lengths (Opened left) (Some (slot.Captured scalars)) h kept acts = absurd kept
acting lengths (Opened left) (Some slot.Nothing) h kept acts = absurd kept
acting lengths (Opened left) None h kept acts = absurd kept
acting lengths Untouched o h kept acts = absurd (false≢true h)
acting lengths (Generated captured) o h kept acts = absurd (false≢true h)
acting lengths Closed o h kept acts = absurd (false≢true h)
acting lengths Passed o h kept acts = absurd (false≢true h)

resting : (lengths : _) (c : Condition) (o : Option Slot) → is_open (whole_condition c) ≡ true → Keeps lengths c o →
    IsAtRest o → Is false true c
unfolding Is
resting lengths (Opened left) (Some (slot.Opened control)) h kept rests =
    let is = kept.is ∙ rests kept.stopped in
    (ap (λ l. has_step (Opened l)) is, ap (λ l. is_finished (Opened l)) is)
resting lengths (Opened left) (Some (slot.Captured scalars)) h kept rests = absurd kept
resting lengths (Opened left) (Some slot.Nothing) h kept rests = absurd kept
resting lengths (Opened left) None h kept rests = absurd kept
resting lengths Untouched o h kept rests = absurd (false≢true h)
resting lengths (Generated captured) o h kept rests = absurd (false≢true h)
resting lengths Closed o h kept rests = absurd (false≢true h)
resting lengths Passed o h kept rests = absurd (false≢true h)

shut : (c : Condition) → is_open (whole_condition c) ≡ false → Is false false c
unfolding Is
shut (Opened left) h = absurd (true≢false h)
shut Untouched h = (refl, refl)
shut (Generated captured) h = (refl, refl)
shut Closed h = (refl, refl)
shut Passed h = (refl, refl)

module _ (p : Plan) (now : Standing) (s : State) (at : IsAt p now s) where
  pub over : now.ended ≡ true → (e : Event) → false ≡ enabled p s e
  over ended e = go (enabled p s e) refl
    where
      go : (v : Bool) → enabled p s e ≡ v → false ≡ enabled p s e
      go true is = absurd (nothing_enabled p now s at ended e is)
      go false is = sym is

  module _ (going : now.ended ≡ false) where
    place : s.place ≡ now.graph.place
    place = at.place ∙ ap (λ v. place_of v now.graph.place) going

    -- an event of the machine with whole items
    pub whole : (e : Event) → allows now.graph e ≡ two.enabled p (as_whole s) e
    whole e = allowed p s now.graph at.graph place e

    abbrev Next : Bool → Bool → ℕ → Type 0
    Next acts closes i = (acts ≡ enabled p s (Step i)) × (closes ≡ enabled p s (Close i))

    known_next : (i : ℕ) (acts closes : Bool) (w : Work) → slice_get p.items i ≡ Some w → Is acts closes (s.condition i) →
        Next acts closes i
    unfolding Is
    known_next i acts closes w is c = (
      sym (ap (λ o. elim o [ None ↦ false | Some w ↦ has_step (s.condition i) ]) is ∙ c.0),
      sym (ap (λ o. elim o [ None ↦ false | Some w ↦ is_finished (s.condition i) ]) is ∙ c.1),
    )

    module _ (i : ℕ) (open_now : allows now.graph (Close i) ≡ true) where
      is_known : Known p i (λ w. is_open (whole_condition (s.condition i)))
      is_known = known p i (λ w. is_open (whole_condition (s.condition i))) (sym (whole (Close i)) ∙ open_now)

      pub acts : IsActing (slice_get now.slots.items i) → Next true false i
      acts h =
          let k = is_known in
          known_next i true false k.work k.is
          (acting p.lengths (s.condition i) (slice_get now.slots.items i) k.has
          (at.kept i (slice_get_within p.items i k.work k.is)) h)

      pub rests : IsAtRest (slice_get now.slots.items i) → Next false true i
      rests h =
          let k = is_known in
          known_next i false true k.work k.is
          (resting p.lengths (s.condition i) (slice_get now.slots.items i) k.has
          (at.kept i (slice_get_within p.items i k.work k.is)) h)

    pub neither : (i : ℕ) → allows now.graph (Close i) ≡ false → Next false false i
    neither i shut_now = go (slice_get p.items i) refl
      where
        no : on_item p i false (λ w. is_open (whole_condition (s.condition i))) ≡ false
        no = sym (whole (Close i)) ∙ shut_now

        go : (o : Option Work) → slice_get p.items i ≡ o → Next false false i
        go None is = (
          sym (ap (λ o. elim o [ None ↦ false | Some w ↦ has_step (s.condition i) ]) is),
          sym (ap (λ o. elim o [ None ↦ false | Some w ↦ is_finished (s.condition i) ]) is),
        )
        go (Some w) is =
            known_next i false false w is
            (shut (s.condition i)
            (sym (ap (λ o. elim o [ None ↦ false | Some w ↦ is_open (whole_condition (s.condition i)) ]) is) ∙ no))

    -- of an open item, by whether an action comes next
    pub by_action : (i : ℕ) (v : Bool) → allows now.graph (Close i) ≡ true →
        (v ≡ true → IsActing (slice_get now.slots.items i)) → (v ≡ false → IsAtRest (slice_get now.slots.items i)) →
        Next v (not v) i
    by_action i true h acting resting = acts i h (acting refl)
    by_action i false h acting resting = rests i h (resting refl)
