-- Which arrays an answer shows.
use Rattle.std.proofs.Common.{◌≡◌, arith, ℕ, List, [], ◌∷◌, refl}
use Rattle.std.specs.Prelude.{Contains}
use Rattle.std.proofs.lemmas.Bool.{true≢false}
use Rattle.base.specs.declared.fault.OrderFault.{OrderFault}
use Rattle.base.specs.declared.fault.RangeFault.{RangeFault}
use Rattle.base.specs.declared.fault.Refusal.{Refusal}
use Rattle.base.specs.declared.tree.ArrayId.{ArrayId}
use Rattle.base.specs.declared.tree.Program.{Program}
use Rattle.base.specs.Accepted.{IsAccepted, IsFault, IsFirstFault, Order, Range, Refused, range_faults}
use Rattle.base.specs.Items.{Plan, plan}
use Rattle.base.specs.Machine.{on_item}
use Rattle.mapcheck.specs.Third.{AreMarked}
use Rattle.mapwalk.specs.Walk.{HasNoRangeFault}
use Rattle.stepper.specs.Answering.{AreShown}

-- where no fault of range holds there is none
none_holds : (p : Plan) → ((i : ℕ) (f : RangeFault) → IsFault p (Range i f) → ⊥) → HasNoRangeFault p
none_holds p none i = empty (on_item p i [] (range_faults p.lengths)) (none i)
  where
    empty : (xs : List RangeFault) → ((f : RangeFault) → Contains xs f → ⊥) → xs ≡ []
    empty [] h = refl
    empty (x ∷ xs) h = absurd (h x (0, omega arith, refl))

fine_if_accepted : (p : Plan) → IsAccepted p → HasNoRangeFault p
fine_if_accepted p a = none_holds p (λ i f. a.sound (Range i f))

pub shown_accepted : (p : Program) (arrays : List ArrayId) → IsAccepted (plan p) → AreMarked (plan p) arrays → AreShown p arrays
shown_accepted p arrays a marked = record {
  fine = fine_if_accepted (plan p) a;
  accepted = λ b. marked;
  refused = λ no_it. absurd (no_it a);
}

pub shown_order : (p : Program) (f : OrderFault) → IsFirstFault (plan p) (Order f) → AreShown p []
shown_order p f first = record {
  fine = none_holds (plan p) (λ i g is. true≢false (first.first (Range i g) is));
  accepted = λ a. absurd (a.sound (Order f) first.holds);
  refused = λ no_it. refl;
}

pub shown_refused : (p : Program) (r : Refusal) → IsFirstFault (plan p) (Refused r) → AreShown p []
shown_refused p r first = record {
  fine = none_holds (plan p) (λ i g is. true≢false (first.first (Range i g) is));
  accepted = λ a. absurd (a.sound (Refused r) first.holds);
  refused = λ no_it. refl;
}
