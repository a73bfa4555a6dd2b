-- The pass, from what has been read.
use Rattle.std.specs.Prelude.{◌++◌}
use Rattle.c_grammar.specs.Blocks.{Items}
use Rattle.c_grammar.specs.Choices.{State, chosen_in}
use Rattle.c_choices.specs.declared.choices.State.{State as Given}
use Rattle.c_choices.specs.declared.choices.Choices.{Choices}
use Rattle.c_terminals.specs.Seen.{seen_all}

abbrev pub seen_state : Given → State
seen_state s = record { blocks = s.blocks; brackets = s.brackets; starts = s.starts }

-- what is written in the end, where these tokens follow
abbrev pub with_choices : Choices → Items → Items
with_choices c is = seen_all c.done.items ++ chosen_in (seen_state c.state) c.left is
