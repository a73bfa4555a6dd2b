-- Arrays that main allocates, from what has been read.
use Rattle.std.specs.Prelude.{map, reverse}
use Rattle.c_grammar.specs.Blocks.{Items}
use Rattle.c_grammar.specs.Constants.{Names}
use Rattle.c_grammar.specs.Allocations.{Cells, Allocation, Reading, all_read}
use Rattle.c_written.specs.declared.allocations.Cells.{Cells as GivenCells}
use Rattle.c_written.specs.declared.allocations.Array.{Array}
use Rattle.c_written.specs.declared.allocated.Allocations.{Allocations}
use Rattle.c_terminals.specs.Seen.{seen, seen_all}

abbrev pub seen_cells : GivenCells → Cells
seen_cells c = record { place = seen c.place; number = c.number }

abbrev pub seen_allocation : Array → Allocation
seen_allocation a = record { name = a.name.now; named = seen a.named; cells = seen_cells a.cells }

-- the names of the arrays, the last one first
abbrev pub names_of : Allocations → Names
names_of a = reverse (map (λ x. x.now) a.names.items)

abbrev pub reading_of : Allocations → Reading
reading_of a = record {
  before = seen_all a.before.items;
  arrays = seen_all a.arrays.items;
  done = seen_all a.done.items;
  inside = a.inside;
  depth = a.depth;
  starts = a.starts;
  out = a.out;
  names = names_of a;
}

-- what is read in the end where these tokens follow
abbrev pub with_allocations : Allocations → Items → Reading
with_allocations a is = all_read (reading_of a) is
