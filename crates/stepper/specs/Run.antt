-- A run of the fine-grained machine as contracts see it.
use Rattle.std.specs.Prelude.{◌≡◌, ℕ, ◌<◌, ◌^◌, ◌++◌, ◌∷◌, [], false, List, Option, Some, None, refl}
use Rattle.std.specs.Coded.{Coded, code_by, coded×, coded_ℕ, coded_list, coded_option}
use Rattle.base.specs.contracts.tree.Program as program_code
use Rattle.base.specs.contracts.item.Event as event_code
use Rattle.base.specs.declared.tree.Program.{Program}
use Rattle.base.specs.declared.item.Event.{Event}
use Rattle.base.specs.Accepted.{IsAccepted}
use Rattle.base.specs.Headline.{AreNumbers}
use Rattle.base.specs.Items.{plan}
use Rattle.base.specs.Map.{Fill}
use Rattle.fine_machine.specs.Machine.{State, start}
use Rattle.fine_headline.specs.FineState.{FineState, IsValid, next}
use Rattle.stepper.specs.Order.{same_order}

-- the program and its whole input, the numbers by which the turns of its kernels go on, how many cells each device has room for, what each cell of created storage holds, the
-- events that were done, and the event at which a fault stopped the run, if one did
pub record Run : Type 0 where
  pub program : Program
  pub input : List ℕ
  pub order : List ℕ
  pub capacity : ℕ
  pub fresh : ℕ
  pub history : List Event
  pub stopped : Option Event

abbrev pub run_code : Coded Run
run_code =
    code_by (Program × (List ℕ × (List ℕ × (ℕ × (ℕ × (List Event × Option Event))))))
    (coded× program_code.the_row.coded (coded× (coded_list coded_ℕ) (coded× (coded_list coded_ℕ) (coded× coded_ℕ
    (coded× coded_ℕ (coded× (coded_list event_code.the_row.coded) (coded_option event_code.the_row.coded)))))))
    (λ r. (r.program, (r.input, (r.order, (r.capacity, (r.fresh, (r.history, r.stopped)))))))
    (λ p. record {
      program = p.0;
      input = p.1.0;
      order = p.1.1.0;
      capacity = p.1.1.1.0;
      fresh = p.1.1.1.1.0;
      history = p.1.1.1.1.1.0;
      stopped = p.1.1.1.1.1.1;
    })
    (λ _. refl)

abbrev pub fill_in : Run → ℕ → Fill
fill_in r i = λ c. r.fresh

abbrev pub order_in : Run → ℕ → List ℕ
order_in r = same_order r.order

abbrev pub with_last : List Event → Option Event → List Event
with_last history None = history
with_last history (Some e) = history ++ e ∷ []

-- the events, with the one at which the run was stopped
abbrev pub events_of : Run → List Event
events_of r = with_last r.history r.stopped

-- the machine before any event
abbrev pub begun : Run → FineState
begun r = record {
  fixed = record { plan = plan r.program; fill = fill_in r; order = order_in r };
  state = start r.input;
  failed = false;
  entered = λ i. [];
}

abbrev pub after_all : FineState → List Event → FineState
after_all s [] = s
after_all s (e ∷ es) = after_all (next s e) es

-- the machine after the events
unfoldable pub fine_of : Run → FineState
fine_of r = after_all (begun r) (events_of r)

abbrev pub state_of : Run → State
state_of r = (fine_of r).state

-- no fault has stopped it
abbrev pub IsGoing : Run → Type 0
IsGoing r = r.stopped ≡ None

-- a run of an accepted program that has done nothing
pub record IsBegun (r : Run) : Type 0 where
  pub accepted : IsAccepted (plan r.program)
  pub numbers : AreNumbers r.input
  pub fresh : r.fresh < 2 ^ 64
  pub history : r.history ≡ []
  pub going : IsGoing r

-- what holds of each state that a run of an accepted program reaches
abbrev pub IsReached : Run → Type 0
IsReached r = IsValid (fine_of r)

-- one event more: it was done, or stopped the run
pub record Takes (old : Run) (e : Event) (new : Run) : Type 0 where
  pub program : new.program ≡ old.program
  pub input : new.input ≡ old.input
  pub order : new.order ≡ old.order
  pub capacity : new.capacity ≡ old.capacity
  pub fresh : new.fresh ≡ old.fresh
  pub events : events_of new ≡ events_of old ++ e ∷ []
