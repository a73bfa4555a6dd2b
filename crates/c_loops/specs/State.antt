-- The pass, from what has been read.
use Rattle.std.specs.Prelude.{◌≡◌, ◌++◌}
use Rattle.c_grammar.specs.Texts.{Item}
use Rattle.c_grammar.specs.Terminal.{Terminal}
use Rattle.c_grammar.specs.Blocks.{Items}
use Rattle.c_grammar.specs.Loops.{State, looped_in, put_on}
use Rattle.c_loops.specs.Blocks.{open_blocks, seen_open}
use Rattle.c_loops.specs.declared.loops.Loops.{Loops}
use Rattle.c_terminals.specs.Seen.{seen_all}

abbrev pub seen_state : Loops → State
seen_state l = record { blocks = open_blocks l.blocks; next = seen_open l.next; starts = l.starts }

-- what is written in the end, where these tokens follow
abbrev pub with_loops : Loops → Items → Items
with_loops l is = seen_all l.done.items ++ looped_in (seen_state l) l.left is

-- the same, where a token comes before them at which no loop begins
abbrev pub put_with : Loops → Item Terminal → Items → Items → Items
put_with l i js is = seen_all l.done.items ++ put_on (seen_state l) i js (λ s k. looped_in s k is)

-- the state is that, and nothing else is another
pub record IsBehind (old : Loops) (s : State) (new : Loops) : Type 0 where
  pub state : seen_state new ≡ s
  pub done : new.done ≡ old.done
  pub left : new.left ≡ old.left
