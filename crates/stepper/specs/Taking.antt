-- What any event of a run leaves.
use Rattle.std.specs.Prelude.{ℕ, ◌≡◌, true, false, IsSomeAnd, None}
use Rattle.base.specs.declared.fault.RunFault.{RunFault}
use Rattle.base.specs.declared.fault.RunFault.TheVariants as fault
use Rattle.base.specs.declared.item.Event.{Event}
use Rattle.base.specs.declared.item.Event.TheVariants.{Gen, Open, Step, Close, Wait, End}
use Rattle.base.specs.Items.{Plan}
use Rattle.fine_machine.specs.Machine.{State, enabled, step}
use Rattle.stepper.specs.declared.standing.Standing.{Standing}
use Rattle.stepper.specs.Standing.{IsAt, fill_from, order_from, is_over}

-- a state is shown in which the event may happen
pub record IsAble (p : Plan) (now : Standing) (e : Event) : Type 0 where
  pub state : State
  pub at : IsAt p now state
  pub may : enabled p state e ≡ true
  pub going : now.ended ≡ false

-- from each state that is shown the event leads to one that is shown
abbrev pub Does : Plan → Standing → Event → Standing → Type 0
Does p old e new = (s : State) → IsAt p old s → enabled p s e ≡ true → IsSomeAnd (step p (fill_from old) (order_from old) s e) (IsAt p new)

abbrev pub has_room : ℕ → Plan → State → Event → Type 0
has_room capacity p s (Step i) = is_over capacity p s i ≡ false
has_room capacity p s (Gen i) = Unit {0}
has_room capacity p s (Open i) = Unit {0}
has_room capacity p s (Close i) = Unit {0}
has_room capacity p s (Wait i) = Unit {0}
has_room capacity p s End = Unit {0}

-- the event is an action for which there is no room
pub record IsFullAt (capacity : ℕ) (p : Plan) (now : Standing) (e : Event) : Type 0 where
  pub item : ℕ
  pub is : e ≡ Step item
  pub over : (s : State) → IsAt p now s → enabled p s e ≡ true → is_over capacity p s item ≡ true

-- why an event is not done
abbrev pub IsTakeFault : ℕ → Plan → Standing → Event → RunFault → Type 0
IsTakeFault capacity p now e fault.OutOfMemory = Unit {0}
IsTakeFault capacity p now e fault.DeviceFull = IsFullAt capacity p now e
IsTakeFault capacity p now e fault.Absent =
    (s : State) → IsAt p now s → enabled p s e ≡ true → has_room capacity p s e × (step p (fill_from now) (order_from now) s e ≡ None)
IsTakeFault capacity p now e fault.Stranger = ⊥
IsTakeFault capacity p now e fault.ThreadNotStarted = ⊥
IsTakeFault capacity p now e fault.OtherState = ⊥
IsTakeFault capacity p now e fault.RangeRefused = ⊥
