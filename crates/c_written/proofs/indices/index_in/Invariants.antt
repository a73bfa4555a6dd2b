use Rattle.std.proofs.Common.{◌≡◌, ◌+◌, length}
use Rattle.c_grammar.specs.Grids.{index_from, index_in}
use Rattle.c_terminals.specs.Ahead.{ahead}
use Rattle.c_written.specs.Indices.{ranges_of}
use Rattle.c_written.specs.Ranges.{seen_range}
use Rattle.c_written.proofs.indices.index_in.Given as goal

abbrev pub invariant-operators : goal.invariant-operators
invariant-operators l = record {
  value : index_from (ranges_of l.ranges) (seen_range l.sums.before) l.sums.minus (seen_range l.sums.product) l.len
      (ahead l.ahead) ≡ index_in (ranges_of l.ranges) (ahead l.fn.start);
  place : l.len + length (ahead l.ahead) ≡ length (ahead l.fn.start);
}

abbrev pub decreases-operators : goal.decreases-operators
decreases-operators l = length (ahead l.ahead)
