-- What is shared, from what has been read.
use Rattle.c_grammar.specs.Shared.{Region}
use Rattle.c_terminals.specs.Names.{seen_names}
use Rattle.c_written.specs.Counters.{seen_before}
use Rattle.c_written.specs.declared.shared.Region.{Region as Given}

abbrev pub seen_region : Given → Region
seen_region r = record { loops = r.loops; inner = r.inner; before = seen_before r.before; names = seen_names r.names }
