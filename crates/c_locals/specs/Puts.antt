-- What has been read, and what stands for tokens.
use Rattle.std.specs.Prelude.{◌∷◌, List, Option, Some, None}
use Rattle.c_grammar.specs.Locals.{Open, Put, State, put}
use Rattle.c_terminals.specs.Seen.{seen_all}
use Rattle.c_locals.specs.Blocks.{open_blocks, seen_array}
use Rattle.c_locals.specs.declared.blocks.Array.{Array}
use Rattle.c_locals.specs.declared.puts.Put.{Put as Given}
use Rattle.c_locals.specs.declared.puts.State.{State as GivenState}

abbrev pub seen_state : GivenState → State
seen_state s = record { blocks = open_blocks s.blocks; used = s.used }

-- with the array that is declared
abbrev pub blocks_with : List Open → Option Array → List Open
blocks_with os None = os
blocks_with os (Some a) = seen_array a ∷ os

abbrev pub seen_put : State → Given → Put
seen_put s p = put (seen_all p.tokens.items) (record { blocks = blocks_with s.blocks p.array; used = p.used }) p.skip
