-- A list of which the last item comes first.
use Rattle.std.specs.Prelude.{ℕ, zero, suc, List, [], ◌∷◌, reverse, Option, Some, None}
use Rattle.c_written.specs.declared.stack.Stack.{Stack}

abbrev pub held : {X : Type 0} → Stack X → List X
held s = reverse s.items.items

-- the item behind so many others
abbrev pub item_at : {X : Type 0} → ℕ → List X → Option X
item_at k [] = None
item_at zero (x ∷ xs) = Some x
item_at (suc k) (x ∷ xs) = item_at k xs
