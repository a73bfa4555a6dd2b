-- The pass, from what has been read.
use Rattle.std.specs.Prelude.{List, ◌++◌, map, reverse}
use Rattle.c_grammar.specs.Blocks.{Items}
use Rattle.c_grammar.specs.Structs as structs
use Rattle.c_grammar.specs.Structs.{rows_from}
use Rattle.c_structs.specs.Found.{seen_form}
use Rattle.c_structs.specs.declared.rows.Put.{Put}
use Rattle.c_structs.specs.declared.rows.Rows.{Rows}
use Rattle.c_structs.specs.declared.state.Before.{Before}
use Rattle.c_structs.specs.declared.state.Before.TheVariants as given
use Rattle.c_structs.specs.declared.state.Indices.{Indices}
use Rattle.c_structs.specs.declared.state.State.{State}
use Rattle.c_terminals.specs.Ahead.{ahead}
use Rattle.c_terminals.specs.Seen.{seen_all}

abbrev pub seen_before : Before → structs.Before
seen_before given.Nothing = structs.Nothing
seen_before (given.OfOne a) = structs.OfOne (ahead a)
seen_before (given.OfMany a) = structs.OfMany (ahead a)
seen_before (given.OfRow a) = structs.OfRow (ahead a)
seen_before (given.OfLength a) = structs.OfLength (ahead a)
seen_before (given.OfType f a) = structs.OfType (seen_form f) (ahead a)

-- the innermost first
abbrev pub seen_indices : Indices → List structs.Before
seen_indices i = reverse (map seen_before i.indices.items)

abbrev pub seen_state : State → structs.State
seen_state s = record { depth = s.depth; indices = seen_indices s.indices; before = seen_before s.before }

abbrev pub seen_put : Put → structs.Put
seen_put p = record { items = seen_all p.tokens.items; len = p.len; before = seen_before p.before }

-- what is written in the end, where these tokens follow
abbrev pub with_rows : structs.Found → Rows → Items → Items
with_rows f r is = seen_all r.done.items ++ rows_from f (seen_state r.state) r.left is
