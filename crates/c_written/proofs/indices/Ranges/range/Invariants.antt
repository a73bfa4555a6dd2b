use Rattle.std.proofs.Common.{◌≡◌, take}
use Rattle.c_grammar.specs.Grids.{range_of}
use Rattle.c_written.specs.Indices.{ranges_in}
use Rattle.c_written.specs.Ranges.{seen_range}
use Rattle.c_written.proofs.indices.Ranges.range.Given as goal

abbrev pub invariant-names : goal.invariant-names
invariant-names l = seen_range l.found ≡ range_of (ranges_in (take l.named-index l.self.names.items)) l.name
