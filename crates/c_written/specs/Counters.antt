-- Loops whose names are declared before them, from what has been read.
use Rattle.std.specs.Prelude.{ℕ, ◌++◌}
use Rattle.c_grammar.specs.Blocks.{Items}
use Rattle.c_grammar.specs.Counters.{Before, Other, IsFor, InHead, Bars, IsType, Barred, IsNamed, Found, counted_in}
use Rattle.c_written.specs.declared.counters.Before.{Before as Given}
use Rattle.c_written.specs.declared.counters.Before.TheVariants as given
use Rattle.c_written.specs.declared.counters.Found.{Found as Read}
use Rattle.c_written.specs.declared.counted.Counters.{Counters}
use Rattle.c_terminals.specs.Names.{seen_names}
use Rattle.c_terminals.specs.Seen.{seen_all}

abbrev pub seen_before : Given → Before
seen_before given.Other = Other
seen_before given.IsFor = IsFor
seen_before given.InHead = InHead
seen_before given.Bars = Bars
seen_before given.IsType = IsType
seen_before given.Barred = Barred
seen_before given.IsNamed = IsNamed

abbrev pub seen_found : Read → Found
seen_found f = record { heads = seen_names f.heads; unset = seen_names f.unset; others = seen_names f.others }

-- what is written in the end, where these tokens follow
abbrev pub with_counters : Found → Counters → Items → Items
with_counters f c is = seen_all c.done.items ++ counted_in f c.depth (seen_before c.before) c.left is
