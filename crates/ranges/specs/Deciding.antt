-- Turns of a loop that tell what all of them touch.
use Rattle.std.specs.Prelude.{ℕ, ◌≡◌, Bool, List, length}
use Rattle.base.specs.declared.tree.Bounds.{Bounds}
use Rattle.base.specs.declared.tree.Stmt.{Stmt}
use Rattle.ranges.specs.Seen.{Seen, after, turns_from}

-- the turns of these bounds see what those of the others see, with so many loops around
abbrev pub SeesAlike : ℕ → List Stmt → Bounds → Bounds → Type 0
SeesAlike level body few all =
    (lengths loops : List ℕ) (certain : Bool) (s : Seen) → length loops ≡ level →
    after lengths (turns_from few.first few body loops certain) s
    ≡ after lengths (turns_from all.first all body loops certain) s
