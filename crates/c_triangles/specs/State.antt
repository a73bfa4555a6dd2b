-- The pass, from what has been read.
use Rattle.std.specs.Prelude.{◌≡◌, ◌++◌}
use Rattle.c_grammar.specs.Texts.{Item}
use Rattle.c_grammar.specs.Terminal.{Terminal}
use Rattle.c_grammar.specs.Blocks.{Items}
use Rattle.c_grammar.specs.Triangles.{Loop, State, loop_in, loop_on, put_on, rectangular_in, turned_on}
use Rattle.c_triangles.specs.Blocks.{open_blocks, seen_open}
use Rattle.c_triangles.specs.declared.triangles.Triangles.{Triangles}
use Rattle.c_terminals.specs.Seen.{seen_all}

abbrev pub seen_state : Triangles → State
seen_state t = record { blocks = open_blocks t.blocks; next = seen_open t.next }

-- what is written in the end, where these tokens follow
abbrev pub with_loops : Triangles → Items → Items
with_loops t is = seen_all t.done.items ++ rectangular_in (seen_state t) t.left is

-- the same, where a token comes before them at which no loop begins that is understood
abbrev pub put_with : Triangles → Item Terminal → Items → Items
put_with t i is = seen_all t.done.items ++ put_on (seen_state t) i (λ s k. rectangular_in s k is)

-- the same, where one begins
abbrev pub loop_put : Triangles → Item Terminal → Loop → Items → Items
loop_put t i l is = seen_all t.done.items ++ loop_on (seen_state t) i l (λ s k. rectangular_in s k is)

-- the same, where the word for comes, which these tokens follow without directive lines
abbrev pub for_with : Triangles → Item Terminal → Items → Items → Items
for_with t i js is =
    let s : State = seen_state t in
    seen_all t.done.items ++ turned_on s i (loop_in s.blocks js) (λ s k. rectangular_in s k is)

-- the state is that, and nothing else is another
pub record IsBehind (old : Triangles) (s : State) (new : Triangles) : Type 0 where
  pub state : seen_state new ≡ s
  pub done : new.done ≡ old.done
  pub left : new.left ≡ old.left

-- these tokens are written, and nothing else is another
pub record Closes (old : Triangles) (is : Items) (new : Triangles) : Type 0 where
  pub written : seen_all new.done.items ≡ seen_all old.done.items ++ is
  pub state : seen_state new ≡ seen_state old
  pub left : new.left ≡ old.left
