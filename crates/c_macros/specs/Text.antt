-- A text that is being read.
use Rattle.std.specs.Prelude.{Bool, Option, Some, None, if◌then◌else◌}
use Rattle.c_grammar.specs.Terminal.{Terminal}
use Rattle.c_grammar.specs.Texts.{Item}
use Rattle.c_grammar.specs.Blocks.{Items, is_directive}
use Rattle.c_grammar.specs.Macros as macros
use Rattle.c_grammar.specs.Macros.{has_some, token_on, with_directive}
use Rattle.c_macros.specs.declared.text.State.{State}
use Rattle.c_macros.specs.Macros.{all_macros, seen_reading}
use Rattle.c_terminals.specs.Names.{seen_names}

abbrev pub seen_state : State → macros.State
seen_state s = record { macros = all_macros s.macros.items; others = seen_names s.others; reading = seen_reading s.reading }

abbrev pub state_so_far : Bool → State → Option macros.State
state_so_far b s = if b then Some (seen_state s) else None

-- behind the next token
abbrev pub taken : macros.State → Item Terminal → Items → Option macros.State
taken s i is = if is_directive i.terminal then Some (with_directive s i) else token_on s i is i.terminal

-- what is read, if no call is open
abbrev pub whole : macros.State → Option Items
whole s = if has_some s.reading.calls then None else Some s.reading.done
