-- Scalars that are declared where they are first assigned, from what has been read.
use Rattle.std.specs.Prelude.{ℕ, ◌++◌, List}
use Rattle.c_grammar.specs.Blocks.{Items}
use Rattle.c_grammar.specs.Moves as moves
use Rattle.c_grammar.specs.Moves.{Before, Other, Starts, Typed, Barred, Ending, moved}
use Rattle.c_written.specs.declared.moves.Before.{Before as Given}
use Rattle.c_written.specs.declared.moves.Before.TheVariants as given
use Rattle.c_written.specs.declared.moves.Stand.{Stand}
use Rattle.c_written.specs.declared.moves.Moves.{Moves}
use Rattle.c_terminals.specs.Seen.{seen_all}

abbrev pub seen_before : Given → Before
seen_before given.Other = Other
seen_before given.Starts = Starts
seen_before given.Typed = Typed
seen_before given.Barred = Barred
seen_before given.Ending = Ending

abbrev pub seen_stand : Stand → moves.Stand
seen_stand s = record { depth = s.depth; declared = s.declared; owned = s.owned; used = s.used }

-- what is written in the end, where these tokens follow
abbrev pub with_moves : List ℕ → Moves → Items → Items
with_moves x m is = seen_all m.done.items ++ moved x (seen_before m.before) (seen_stand m.stand) is
