-- What a range here stands for in the grammar.
use Rattle.c_grammar.specs.Grids.{Range, range}
use Rattle.c_written.specs.declared.range.Range.{Range as Given}

abbrev pub seen_range : Given → Range
seen_range r = range r.first r.last
