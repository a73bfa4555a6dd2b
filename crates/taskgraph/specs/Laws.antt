-- What ties the graph to the machine with two memories.
use Rattle.std.specs.Prelude.{◌≡◌}
use Rattle.base.specs.declared.item.Event.{Event}
use Rattle.base.specs.Items.{Plan}
use Rattle.base.specs.Machine.{State, enabled}
use Rattle.taskgraph.specs.Board.{Board, Stands, allows}

-- the graph allows the events that are enabled in each state that it stands for
abbrev pub AllowedIsEnabled : Type 0
AllowedIsEnabled = (plan : Plan) (s : State) (b : Board) (e : Event) → Stands plan s b → allows b e ≡ enabled plan s e
