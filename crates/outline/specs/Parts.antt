-- The items of parts under loops.
use Rattle.std.specs.Prelude.{ℕ, List, [], ◌∷◌, ◌++◌, flat_map}
use Rattle.base.specs.declared.tree.Part.{Part}
use Rattle.base.specs.declared.tree.Bounds.{Bounds}
use Rattle.base.specs.Meaning.{turns_left}
use Rattle.base.specs.Items.{Work, items_of, turned_out}

abbrev pub parts_items : List Part → List ℕ → List ℕ → List Work
parts_items parts lengths loops = flat_map (λ p. items_of p lengths loops) parts

-- the items of the turns from v on
abbrev pub turns_items : ℕ → Bounds → List Part → List ℕ → List ℕ → List Work
turns_items v b body lengths loops =
    turned_out (turns_left v b) v b.step (λ v. parts_items body lengths (loops ++ v ∷ []))
