-- Global pointers, from what has been read.
use Rattle.std.specs.Prelude.{◌++◌, map}
use Rattle.c_grammar.specs.Blocks.{Items}
use Rattle.c_grammar.specs.Pointers as pointers
use Rattle.c_grammar.specs.Pointers.{pointed_in}
use Rattle.c_written.specs.Allocations.{seen_allocation}
use Rattle.c_written.specs.declared.pointed.Arrays.{Arrays}
use Rattle.c_written.specs.declared.pointed.Put.{Put}
use Rattle.c_written.specs.declared.pointers.Found.{Found}
use Rattle.c_written.specs.declared.pointers.Place.{Place}
use Rattle.c_terminals.specs.Seen.{seen_all}

abbrev pub seen_place : Place → pointers.State
seen_place p = record { depth = p.depth; inside = p.inside; starts = p.starts }

abbrev pub seen_found : Found → pointers.Found
seen_found f = record {
  declared = map (λ x. x.now) f.declared.items;
  allocated = map seen_allocation f.allocated.items;
  assigned = map (λ x. x.now) f.assigned.items;
  spoiled = map (λ x. x.now) f.spoiled.items;
}

abbrev pub seen_put : Put → pointers.Put
seen_put p = record { items = seen_all p.tokens.items; len = p.len }

-- what is written in the end, where these tokens follow
abbrev pub with_pointed : pointers.Found → Arrays → Items → Items
with_pointed f p is = seen_all p.done.items ++ pointed_in f (seen_place p.place) p.left is
