-- Where one more event of a run leads.
use Rattle.std.proofs.Common.{◌≡◌, false, List, [], ◌∷◌, ◌++◌, Option, Some, None, refl, ap, ◌∙◌}
use Rattle.base.specs.declared.item.Event.{Event}
use Rattle.base.specs.Items.{plan}
use Rattle.fine_machine.specs.Machine.{State, start, step}
use Rattle.fine_headline.specs.FineState.{FineState, Fixed, next, result_of}
use Rattle.stepper.specs.Run.{IsGoing, Run, Takes, after_all, begun, events_of, fine_of, with_last}

-- one event more
one_more : (s : FineState) (es : List Event) (e : Event) → after_all s (es ++ e ∷ []) ≡ next (after_all s es) e
one_more s [] e = refl
one_more s (d ∷ es) e = one_more (next s d) es e

kept_by : (s : FineState) (e : Event) (o : Option State) → (result_of s e o).fixed ≡ s.fixed
kept_by s e None = refl
kept_by s e (Some t) = refl

keeps_all : (s : FineState) (es : List Event) → (after_all s es).fixed ≡ s.fixed
keeps_all s [] = refl
keeps_all s (e ∷ es) = keeps_all (next s e) es ∙ kept_by s e (step s.fixed.plan s.fixed.fill s.fixed.order s.state e)

-- the program is the run's
pub same_fixed : (r : Run) → (fine_of r).fixed ≡ (begun r).fixed
unfolding fine_of
same_fixed r = keeps_all (begun r) (events_of r)

pub same_plan : (r : Run) → (fine_of r).fixed.plan ≡ plan r.program
same_plan r = ap (λ (f : Fixed). f.plan) (same_fixed r)

-- where nothing was done
pub at_first : (r : Run) → r.history ≡ [] → IsGoing r → fine_of r ≡ begun r
unfolding fine_of
at_first r none going = ap (after_all (begun r)) ((λ i. with_last (none i) (going i)))

-- where an event leads
pub leads : (r t : Run) (e : Event) → Takes r e t → fine_of t ≡ next (fine_of r) e
unfolding fine_of
leads r t e h =
    (λ i. after_all (record {
      fixed = record { plan = plan (h.program i); fill = λ j c. h.fresh i; order = λ j. h.order i };
      state = start (h.input i);
      failed = false;
      entered = λ j. [];
    }) (h.events i))
    ∙ one_more (begun r) (events_of r) e
