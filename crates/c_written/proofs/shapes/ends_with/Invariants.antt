use Rattle.std.proofs.Common.{◌≡◌, ◌+◌, drop, length, map}
use Rattle.c_grammar.specs.Constants.{ends_with}
use Rattle.c_written.specs.Past.{past_of, seen_shape}
use Rattle.c_written.proofs.shapes.ends_with.Given as goal

abbrev pub invariant-shapes : goal.invariant-shapes
invariant-shapes l = record {
  value : ends_with (map seen_shape l.left) (drop l.k (past_of l.past)) ≡
      ends_with (map seen_shape l.fn.shapes) (drop l.fn.behind (past_of l.fn.past));
  place : l.k + length l.left ≡ l.fn.behind + length l.fn.shapes;
}

abbrev pub decreases-shapes : goal.decreases-shapes
decreases-shapes l = length l.left
