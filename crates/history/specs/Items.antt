-- What items do to where a cell is current.
use Rattle.std.specs.Prelude.{ℕ, ◌≡◌, [], List, Some, Vec, slice_get}
use Rattle.std.specs.declared.alloc.Global.{Global}
use Rattle.base.specs.Items.{Plan, Work}
use Rattle.base.specs.Actions.{Stage, stages}
use Rattle.mapwalk.specs.declared.rows.Acts.{Acts}
use Rattle.mapwalk.specs.Laws.{actions_of}

-- an item whose map items do this
abbrev pub spelled : Work → List Acts → Stage
spelled w row = record { work = w; actions = actions_of w row; met = [] }

-- what the first items of a plan do is spelled out by these rows of their map items
abbrev pub AreSpelled : Plan → List (Vec Acts Global) → Type 0
AreSpelled plan rows =
    (i : ℕ) (s : Stage) (row : Vec Acts Global) → slice_get (stages plan) i ≡ Some s → slice_get rows i ≡ Some row →
    s.actions ≡ actions_of s.work row.items
