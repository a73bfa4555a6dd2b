-- How high the counts of blocks are.
use Rattle.std.specs.Prelude.{ℕ, ◌≡◌, ◌≤◌, List, Some, slice_get}
use Rattle.mapwalk.specs.declared.blocks.Block.{Block}

-- no count is above n
abbrev pub CountUpTo : ℕ → List Block → Type 0
CountUpTo n blocks = (k : ℕ) (b : Block) → slice_get blocks k ≡ Some b → b.count ≤ n
