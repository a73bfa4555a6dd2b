-- The pass, from what has been read.
use Rattle.std.specs.Prelude.{◌≡◌, ◌++◌, [], ◌∷◌}
use Rattle.c_grammar.specs.Texts.{Item}
use Rattle.c_grammar.specs.Terminal.{Terminal}
use Rattle.c_grammar.specs.Blocks.{Items}
use Rattle.c_grammar.specs.Devices.{State, on_devices_in}
use Rattle.c_terminals.specs.Held.{written_all}
use Rattle.c_devices.specs.Blocks.{open_blocks, seen_block}
use Rattle.c_devices.specs.declared.devices.Devices.{Devices}

abbrev pub seen_state : Devices → State
seen_state d = record { blocks = open_blocks d.blocks; next = seen_block d.next }

-- what is written in the end, where these tokens follow
abbrev pub with_devices : Devices → Items → Items
with_devices d is = written_all d.done.items ++ on_devices_in (seen_state d) is

-- the token is written, and nothing else is another
pub record HasPut (old : Devices) (i : Item Terminal) (new : Devices) : Type 0 where
  pub done : written_all new.done.items ≡ written_all old.done.items ++ i ∷ []
  pub state : seen_state new ≡ seen_state old

-- the state is that, and nothing else is another
pub record IsBehind (old : Devices) (s : State) (new : Devices) : Type 0 where
  pub state : seen_state new ≡ s
  pub done : new.done ≡ old.done
