-- The open blocks.
use Rattle.std.specs.Prelude.{ℕ, List, map, reverse, Option}
use Rattle.std.specs.Borrow.{Bor}
use Rattle.std.specs.Option.{option_map}
use Rattle.c_grammar.specs.Devices.{Block}
use Rattle.c_devices.specs.declared.blocks.Blocks.{Blocks}

abbrev pub seen_block : Option (Bor (List ℕ)) → Block
seen_block o = option_map (λ x. x.now) o

abbrev pub blocks_of : List (Option (Bor (List ℕ))) → List Block
blocks_of os = reverse (map seen_block os)

-- the innermost first
abbrev pub open_blocks : Blocks → List Block
open_blocks b = blocks_of b.items.items
