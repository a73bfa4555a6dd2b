-- Where turns meet, found from what the turns before each have touched.
use Rattle.std.specs.Prelude.{◌≡◌, ℕ, zero, suc, Bool, true, false, ◌&&◌, ◌||◌, List, [], ◌∷◌, ◌++◌, Some, None, flat_map}
use Rattle.std.specs.List.{list_any}
use Rattle.base.specs.declared.item.Cell.{Cell}
use Rattle.base.specs.declared.tree.Stmt.{Stmt}
use Rattle.base.specs.Footprint.{Touch, has_cell, writes}
use Rattle.base.specs.ScalarUse.{list_assigned, list_needs}
use Rattle.base.specs.Turns.{Turn, only_loop, turn_touches, turns_at, turns_meet}
use Rattle.ranges.specs.Ways.{kind_of, opposes}

-- one of these touches is of the cell and opposes this way
abbrev pub touched_before : List Touch → ℕ → Cell → Bool
touched_before before way c = list_any (λ s. opposes (kind_of s) way && has_cell c s) before

-- the cell is touched in a way that opposes one in which it was touched before
abbrev pub meets_before : List Touch → List Touch → Cell → Bool
meets_before before now c = list_any (λ t. has_cell c t && touched_before before (kind_of t) c) now

-- one of the turns does so, behind these touches and the turns before it
abbrev pub meets_from : List Touch → List Turn → Cell → Bool
meets_from before [] c = false
meets_from before (t ∷ rest) c =
    meets_before before (turn_touches t) c || meets_from (before ++ turn_touches t) rest c

-- what each turn of the d outermost loops of these statements does
abbrev pub turn_body : ℕ → List Stmt → List Stmt
turn_body zero body = body
turn_body (suc d) body = elim (only_loop body) [
  | None ↦ body
  | Some l ↦ turn_body d l.1
]

-- turns of a body that needs no scalar which it assigns meet where one of them meets those before it
abbrev pub AreMetBefore : Type 0
AreMetBefore = (d : ℕ) (body : List Stmt) (loops : List ℕ) (c : Cell) →
    list_any (λ x. list_needs x (turn_body d body)) (list_assigned (turn_body d body)) ≡ false →
    turns_meet (turns_at d body loops) c ≡ meets_from [] (turns_at d body loops) c

-- those of any other body meet, if there are two, where any of them writes
abbrev pub AreMetWhereWritten : Type 0
AreMetWhereWritten = (d : ℕ) (body : List Stmt) (loops : List ℕ) (c : Cell) (s t : Turn) (rest : List Turn) →
    list_any (λ x. list_needs x (turn_body d body)) (list_assigned (turn_body d body)) ≡ true →
    turns_at d body loops ≡ s ∷ t ∷ rest →
    turns_meet (turns_at d body loops) c ≡ writes (flat_map turn_touches (turns_at d body loops)) c
