-- Globals with their initializers, from what has been read.
use Rattle.std.specs.Prelude.{◌≡◌, ◌++◌}
use Rattle.c_grammar.specs.Blocks.{Items}
use Rattle.c_grammar.specs.Initial.{Initial, Globals as State, Onward, initialized}
use Rattle.c_written.specs.declared.initial.Initializer.{Initializer as Given}
use Rattle.c_written.specs.declared.globals.Globals.{Globals}
use Rattle.c_terminals.specs.Seen.{seen_all}

abbrev pub seen_initial : Given → Initial
seen_initial f = record { len = f.len; sets = seen_all f.sets.items }

abbrev pub state_of : Globals → State
state_of g = record { since = seen_all g.since.items; late = seen_all g.late.items; inside = g.inside }

-- what is written in the end, where f gives what comes behind what is written so far
abbrev pub IsGone : Globals → Globals → (Onward → Items) → Type 0
IsGone old new f = (go : Onward) →
    seen_all old.done.items ++ f go ≡ seen_all new.done.items ++ go (state_of new) new.left

-- what is written in the end where these tokens follow
abbrev pub with_globals : Globals → Items → Items
with_globals g is = seen_all g.done.items ++ initialized (state_of g) g.left is
