-- What holds of every run of the fine-grained machine of an accepted program.
use Rattle.base.specs.declared.item.Event.{Event}
use Rattle.std.specs.Prelude.{ℕ, ◌≡◌, IsTrue, List, Some, None}
use Rattle.base.specs.declared.tree.Program.{Program}
use Rattle.base.specs.declared.item.Cell.{Cell}
use Rattle.base.specs.Memory.{is_cell}
use Rattle.base.specs.Meaning.{Plain, erased, lengths_of}
use Rattle.base.specs.Items.{plan}
use Rattle.base.specs.Map.{Fill}
use Rattle.fine_machine.specs.Machine.{State, RunFrom, HasEnded, enabled}
use Rattle.base.specs.Current.{is_marked}
use Rattle.base.specs.Accepted.{IsAccepted}
use Rattle.base.specs.Headline.{AreNumbers, IsFill}

-- a state shows what the program without its directives does: its output, and its values in every array marked current
pub record FineShowsErased (p : Program) (input : List ℕ) (s : State) : Type 0 where
  pub plain : Plain
  pub is_erased : erased p input ≡ Some plain
  pub output : s.output ≡ plain.printed
  pub marked : (c : Cell) → IsTrue (is_cell (lengths_of p) c) → IsTrue (is_marked (plan p) c.array.0) →
      s.memories.host c ≡ plain.memory c

-- every run that ends shows it; no run fails; and no run is stuck before its end
pub record EveryFineRunIsRight (p : Program) : Type 0 where
  pub shows : (input : List ℕ) (fill : ℕ → Fill) (order : ℕ → List ℕ) (events : List Event) (s : State) →
      AreNumbers input → IsFill fill → RunFrom (plan p) fill order input events (Some s) → HasEnded (plan p) s →
      FineShowsErased p input s
  pub never_fails : (input : List ℕ) (fill : ℕ → Fill) (order : ℕ → List ℕ) (events : List Event) →
      AreNumbers input → IsFill fill → RunFrom (plan p) fill order input events None → ⊥
  pub never_stuck : (input : List ℕ) (fill : ℕ → Fill) (order : ℕ → List ℕ) (events : List Event) (s : State) →
      AreNumbers input → IsFill fill → RunFrom (plan p) fill order input events (Some s) → (HasEnded (plan p) s → ⊥) →
      (e : Event) × IsTrue (enabled (plan p) s e)

-- the fine-grained headline
abbrev pub FineHeadline : Type 0
FineHeadline = (p : Program) → IsAccepted (plan p) → EveryFineRunIsRight p
