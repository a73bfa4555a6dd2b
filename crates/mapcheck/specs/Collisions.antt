-- Where two accesses conflict.
use Rattle.std.specs.Prelude.{Bool, ◌&&◌, ◌||◌, List, Option}
use Rattle.std.specs.List.{list_any}
use Rattle.base.specs.declared.item.Cell.{Cell}
use Rattle.base.specs.Actions.{Stage, conflict}
use Rattle.base.specs.Least.{IsLeast}
use Rattle.mapcheck.specs.declared.accesses.Access.{Access}
use Rattle.mapcheck.specs.declared.accesses.Accesses.{Accesses}
use Rattle.mapcheck.specs.Accesses.{AreAccesses, has_cell, same_loc}

-- both are at one location, and one of them writes
abbrev pub collide : Access → Access → Cell → Bool
collide a b c = (same_loc a.loc b.loc && (a.writes || b.writes)) && (has_cell a.cells c && has_cell b.cells c)

-- an access with one of some
abbrev pub collides : Access → List Access → Cell → Bool
collides a list c = list_any (λ b. collide a b c) list

-- one of some accesses with one of others
abbrev pub some_collide : List Access → List Access → Cell → Bool
some_collide first second c = list_any (λ a. collides a second c) first

-- the least cell on which two stages with these accesses conflict
abbrev pub IsLeastConflict : Accesses → Accesses → Option Cell → Type 0
IsLeastConflict a b found =
    (s t : Stage) → AreAccesses a s.work.device s.actions → AreAccesses b t.work.device t.actions → IsLeast (conflict s t) found
