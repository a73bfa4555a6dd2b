-- Where the host stands at an open item that is not deferred, and one condition changes.
use Rattle.std.proofs.Common.{◌≡◌, ℕ, Bool, true, false, refl, sym, ap, ◌∙◌, Some}
use Rattle.std.specs.Prelude.{◌==◌, if◌then◌else◌, slice_get}
use Rattle.std.proofs.lemmas.Bool.{false≢true, eqb-true, eqb-false}
use Rattle.base.specs.declared.item.ItemKind.{ItemKind}
use Rattle.base.specs.declared.item.ItemKind.TheVariants as kind
use Rattle.base.specs.Items.{Work, Plan}
use Rattle.base.specs.Meaning.{Run as Region_run}
use Rattle.base.specs.Machine.{is_open}
use Rattle.fine_machine.specs.Machine.{State, Condition, Untouched, Generated, Opened, Closed, Passed, has_step, host_done, is_finished, whole_condition}
use Rattle.stepper.specs.Standing.{IsHere}

pub open_finished : (c : Condition) → is_finished c ≡ true → is_open (whole_condition c) ≡ true
open_finished (Opened left) h = refl
open_finished Untouched h = absurd (false≢true h)
open_finished (Generated captured) h = absurd (false≢true h)
open_finished Closed h = absurd (false≢true h)
open_finished Passed h = absurd (false≢true h)

pub open_acting : (c : Condition) → has_step c ≡ true → is_open (whole_condition c) ≡ true
open_acting (Opened left) h = refl
open_acting Untouched h = absurd (false≢true h)
open_acting (Generated captured) h = absurd (false≢true h)
open_acting Closed h = absurd (false≢true h)
open_acting Passed h = absurd (false≢true h)

-- what a host region did does not change where the host stands
pub done_place : (k : ItemKind) (t : Region_run) (s : State) → (host_done k t s).place ≡ s.place
done_place kind.Host t s = refl
done_place kind.Target t s = refl
done_place kind.Begin t s = refl
done_place kind.End t s = refl
done_place kind.Enter t s = refl
done_place kind.Exit t s = refl
done_place kind.Update t s = refl
done_place kind.Wait t s = refl

module _ (plan : Plan) (s : State) (here : IsHere plan s) where
  -- the conditions of all items but one are as before
  abbrev pub IsOnly : ℕ → Condition → State → Type 0
  IsOnly k c t = (i : ℕ) → t.condition i ≡ (if i == k then c else s.condition i)

  -- where the host stays, and stands at that item if it is now open and not deferred
  pub stays : (k : ℕ) (c : Condition) (t : State) → IsOnly k c t → t.place ≡ s.place →
      ((w : Work) → slice_get plan.items k ≡ Some w → w.deferred ≡ false → is_open (whole_condition c) ≡ true →
      s.place ≡ k) → IsHere plan t
  stays k c t only place at i w is now so = place ∙ go (i == k) refl
    where
      go : (v : Bool) → (i == k) ≡ v → s.place ≡ i
      go true e =
          let same : i ≡ k = eqb-true i k e in
          let is_now : t.condition i ≡ c = only i ∙ ap (λ v. if v then c else s.condition i) e in
          at w (ap (slice_get plan.items) (sym same) ∙ is) now
          (ap (λ d. is_open (whole_condition d)) (sym is_now) ∙ so)
          ∙ sym same
      go false e =
          let is_now : t.condition i ≡ s.condition i = only i ∙ ap (λ v. if v then c else s.condition i) e in
          here i w is now (ap (λ d. is_open (whole_condition d)) (sym is_now) ∙ so)

  -- where the host stood at that item, which is not open now, no item that is not deferred is open
  pub leaves : (k : ℕ) (c : Condition) (t : State) → IsOnly k c t → s.place ≡ k → is_open (whole_condition c) ≡ false →
      IsHere plan t
  leaves k c t only at shut i w is now so = absurd (go (i == k) refl)
    where
      go : (v : Bool) → (i == k) ≡ v → ⊥
      go true e =
          let is_now : t.condition i ≡ c = only i ∙ ap (λ v. if v then c else s.condition i) e in
          false≢true (sym shut ∙ (ap (λ d. is_open (whole_condition d)) (sym is_now) ∙ so))
      go false e =
          let is_now : t.condition i ≡ s.condition i = only i ∙ ap (λ v. if v then c else s.condition i) e in
          let stood = here i w is now (ap (λ d. is_open (whole_condition d)) (sym is_now) ∙ so) in
          eqb-false i k e (sym stood ∙ at)
