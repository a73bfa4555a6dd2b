-- The pass, from what has been read.
use Rattle.std.specs.Prelude.{ℕ, ◌≡◌, ◌+◌, ◌++◌, List, Option}
use Rattle.c_grammar.specs.Terminal.{Terminal}
use Rattle.c_grammar.specs.Texts.{Item}
use Rattle.c_grammar.specs.Blocks.{Items}
use Rattle.c_terminals.specs.Seen.{seen_all}
use Rattle.c_temporaries.specs.Parts.{seen_known, seen_knowns}
use Rattle.c_temporaries.specs.Temporaries as spec
use Rattle.c_temporaries.specs.Temporaries.{State, Terminals, placed, spent, with_loop, written_at}
use Rattle.c_temporaries.specs.declared.temporaries.Temporary.{Temporary}
use Rattle.c_temporaries.specs.declared.temporaries.Temporaries.{Temporaries}

abbrev pub seen_temporary : Temporary → spec.Temporary
seen_temporary t = record { known = seen_known t.known; len = t.len; more = t.more }

abbrev pub seen_state : Temporaries → State
seen_state t = record { depth = t.depth; knowns = seen_knowns t.knowns; begins = t.begins; declares = t.declares; left = t.uses }

-- what is written in the end, where these tokens follow
abbrev pub with_temporaries : Temporaries → Items → Items
with_temporaries t is = seen_all t.done.items ++ placed (seen_state t) t.left is

-- a token, or what it stands for, is written, and nothing else is another
pub record HasPut (old : Temporaries) (o : Option Terminals) (i : Item Terminal) (new : Temporaries) : Type 0 where
  pub done : seen_all new.done.items ≡ seen_all old.done.items ++ written_at i o
  pub state : seen_state new ≡ spent o (seen_state old)
  pub left : new.left ≡ old.left

-- the name of a loop is known
abbrev pub entered : Option (List ℕ) → State → State
entered o s = record s { knowns = with_loop (s.depth + 1) o s.knowns }

-- the state is that, and nothing else is another
pub record IsBehind (old : Temporaries) (s : State) (new : Temporaries) : Type 0 where
  pub state : seen_state new ≡ s
  pub done : new.done ≡ old.done
  pub left : new.left ≡ old.left
