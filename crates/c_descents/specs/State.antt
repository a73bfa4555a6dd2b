-- The pass, from what has been read.
use Rattle.std.specs.Prelude.{◌≡◌, ◌++◌, ℕ, Bool, List, Option, Some, None}
use Rattle.std.specs.Borrow.{Bor}
use Rattle.std.specs.Option.{option_map}
use Rattle.c_grammar.specs.Texts.{Item}
use Rattle.c_grammar.specs.Terminal.{Terminal}
use Rattle.c_grammar.specs.Blocks.{Items}
use Rattle.c_grammar.specs.Descents.{Loop, Open, State, loop_in, small_named, stand, stands_of, turned_on, upward_in}
use Rattle.c_terminals.specs.Held.{written_all}
use Rattle.c_descents.specs.Blocks.{open_blocks}
use Rattle.c_descents.specs.declared.descents.Descents.{Descents}

-- a token, or what stands for it
abbrev pub put_by : List Open → Bool → Item Terminal → Items
put_by os free i = stand free i (stands_of os i.terminal)

abbrev pub seen_next : Option (Bor (List ℕ)) → Open
seen_next o = small_named (option_map (λ x. x.now) o)

abbrev pub seen_state : Descents → State
seen_state d = record { blocks = open_blocks d.blocks; next = seen_next d.next; free = d.free }

-- what is written in the end, where these tokens follow
abbrev pub with_descents : Descents → Items → Items
with_descents d is = written_all d.done.items ++ upward_in (seen_state d) d.left is

-- the same, where a token comes before them at which no such loop begins, and which these follow without directive lines
abbrev pub put_with : Descents → Item Terminal → Items → Items → Items
put_with d i js is =
    let s : State = seen_state d in
    written_all d.done.items ++ turned_on s i js None (λ s k. upward_in s k is)

-- the same, where one begins
abbrev pub loop_put : Descents → Item Terminal → Loop → Items → Items → Items
loop_put d i l js is =
    let s : State = seen_state d in
    written_all d.done.items ++ turned_on s i js (Some l) (λ s k. upward_in s k is)

-- the same, where the word for comes
abbrev pub for_with : Descents → Item Terminal → Items → Items → Items
for_with d i js is =
    let s : State = seen_state d in
    written_all d.done.items ++ turned_on s i js (loop_in s.blocks js) (λ s k. upward_in s k is)

-- these tokens are written, and nothing else is another
pub record HasPut (old : Descents) (is : Items) (new : Descents) : Type 0 where
  pub done : written_all new.done.items ≡ written_all old.done.items ++ is
  pub state : seen_state new ≡ seen_state old
  pub left : new.left ≡ old.left

-- the state is that, and nothing else is another
pub record IsBehind (old : Descents) (s : State) (new : Descents) : Type 0 where
  pub state : seen_state new ≡ s
  pub done : new.done ≡ old.done
  pub left : new.left ≡ old.left
