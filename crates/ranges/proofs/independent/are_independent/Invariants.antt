use Rattle.std.proofs.Common.{◌≡◌, ◌<◌, ◌++◌, length, true}
use Rattle.base.specs.declared.item.Cell.{Cell}
use Rattle.ranges.specs.Cells.{has}
use Rattle.ranges.specs.Strides.{AllApart, nest_highs, nest_lows}
use Rattle.ranges.proofs.independent.are_independent.Given as goal

abbrev pub invariant-loop-a : goal.invariant-loop-a
invariant-loop-a l = record {
  lows : l.span.lows.items ≡ l.loops ++ nest_lows l.depth l.nest;
  highs : l.span.highs.items ≡ l.loops ++ nest_highs l.depth l.nest;
  apart : (c : Cell) → c.array.0 < l.a → has l.write c ≡ true →
      AllApart c.array.0 (length l.loops) l.depth l.nest l.body (l.loops ++ nest_lows l.depth l.nest) (l.loops ++ nest_highs l.depth l.nest);
}
