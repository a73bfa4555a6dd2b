use Rattle.std.proofs.Common.{◌≡◌, ◌++◌, length}
use Rattle.std.specs.Vec.Iter.{into_iter_items, into_iter_len}
use Rattle.kernel.specs.Laid.{AreLaid}
use Rattle.kernel.proofs.part.lay_rows.Given as goal

abbrev pub invariant-loop-row : goal.invariant-loop-row
invariant-loop-row l = record {
  taken : l.yielded ++ into_iter_items l.row-iterator ≡ into_iter_items l.initial.row-iterator;
  laid : AreLaid l.yielded l.over l.laid.items;
  left : into_iter_len l.row-iterator ≡ length (into_iter_items l.row-iterator);
}
