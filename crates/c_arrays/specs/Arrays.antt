-- Arrays that main declares, from what has been read.
use Rattle.std.specs.Prelude.{map, reverse}
use Rattle.c_grammar.specs.Blocks.{Items}
use Rattle.c_grammar.specs.Allocations.{Reading}
use Rattle.c_grammar.specs.MainArrays.{all_lifted}
use Rattle.c_arrays.specs.declared.arrays.Arrays.{Arrays}
use Rattle.c_terminals.specs.Seen.{seen_all}

abbrev pub reading_of : Arrays → Reading
reading_of a = record {
  before = seen_all a.before.items;
  arrays = seen_all a.arrays.items;
  done = seen_all a.done.items;
  inside = a.inside;
  depth = a.depth;
  starts = a.starts;
  out = a.declares;
  names = reverse (map (λ x. x.now) a.names.items);
}

-- what is read in the end where these tokens follow
abbrev pub with_arrays : Arrays → Items → Reading
with_arrays a is = all_lifted (reading_of a) is
