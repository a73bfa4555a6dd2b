-- The frame of an item that may be opened.
use Rattle.std.specs.Prelude.{◌≡◌, ℕ, Bool, true, List, Some, slice_get, slice_index}
use Rattle.base.specs.declared.tree.Program.{Program}
use Rattle.base.specs.declared.item.Item.{Item}
use Rattle.base.specs.Items.{Work, Plan, plan}
use Rattle.base.specs.Machine.{State, captured_by, is_waiting}
use Rattle.frames.specs.Laws.{IsFine}
use Rattle.two_memories.specs.Two.{IsBounded}
use Rattle.device.specs.declared.frame.Unfilled.{Unfilled}
use Rattle.device.specs.declared.standing.Standing.{Standing}
use Rattle.device.specs.Opening.{IsOf, Serves}
use Rattle.device.specs.Standing.{IsAt}

-- the scalars of an item that may be opened
abbrev pub Captures : Standing → Bool → ℕ → List ℕ → Type 0
Captures now deferred i scalars = (p : Plan) (s : State) (w : Work) → IsAt p now s → slice_get p.items i ≡ Some w →
    w.deferred ≡ deferred → is_waiting w.deferred (s.condition i) ≡ true →
    slice_index scalars ≡ captured_by (s.condition i) s.scalars

-- the frame serves an item of an accepted program that may be opened
abbrev pub FramesWell : Program → Standing → ℕ → Item → Unfilled → Type 0
FramesWell p now i it u = (s : State) (w : Work) → IsAt (plan p) now s → IsBounded s → IsFine (plan p).lengths w →
    slice_get (plan p).items i ≡ Some w → IsOf it w → is_waiting w.deferred (s.condition i) ≡ true → Serves (plan p) now s i w u
