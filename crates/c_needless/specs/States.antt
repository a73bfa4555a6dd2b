-- Where a token stands, as the definition has it, and what is written in the end.
use Rattle.std.specs.Prelude.{◌≡◌, [], ◌∷◌, ◌++◌, reverse}
use Rattle.c_grammar.specs.Blocks.{Items}
use Rattle.c_grammar.specs.Needless as spec
use Rattle.c_grammar.specs.Needless.{behind, emptied, is_outside, needed_in}
use Rattle.c_grammar.specs.Terminal.{Terminal}
use Rattle.c_grammar.specs.Texts.{Item}
use Rattle.c_terminals.specs.Seen.{seen_all}
use Rattle.c_needless.specs.declared.states.Before.{Before}
use Rattle.c_needless.specs.declared.states.Before.TheVariants as places
use Rattle.c_needless.specs.declared.states.State.{State}
use Rattle.c_needless.specs.declared.leaving.Leaving.{Leaving}

abbrev pub seen_before : Before → spec.Before
seen_before places.Begins = spec.Begins
seen_before places.Bodied = spec.Bodied
seen_before places.Other = spec.Other

abbrev pub seen_state : State → spec.State
seen_state s = record { braces = reverse s.braces.items; round = s.round; before = seen_before s.before }

-- what is written in the end, where these tokens follow
abbrev pub with_rest : Leaving → Items → Items
with_rest n is = seen_all n.done.items ++ needed_in (seen_state n.state) n.left is

-- the token is kept
pub record IsKept (old : Leaving) (i : Item Terminal) (new : Leaving) : Type 0 where
  pub done : seen_all new.done.items ≡ seen_all old.done.items ++ i ∷ []
  pub state : seen_state new.state ≡ behind (seen_state old.state) i
  pub left : new.left ≡ old.left

-- an empty block stands for the token, or nothing outside of blocks
pub record IsEmptied (old : Leaving) (i : Item Terminal) (new : Leaving) : Type 0 where
  pub done : seen_all new.done.items ≡ seen_all old.done.items ++ emptied (is_outside (seen_state old.state).braces) i []
  pub state : seen_state new.state ≡ seen_state old.state
  pub left : new.left ≡ old.left
