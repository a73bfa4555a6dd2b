use Rattle.std.proofs.Common.{◌≡◌, take}
use Rattle.ranges.specs.Seen.{list_touches}
use Rattle.ranges.specs.Strides.{Holds}
use Rattle.ranges.proofs.touched.+touched.Given as goal

abbrev pub invariant-touched_all-loop-s : goal.invariant-touched_all-loop-s
invariant-touched_all-loop-s l = record {
  lows : l.span.lows.items ≡ l.initial.span.lows.items;
  highs : l.span.highs.items ≡ l.initial.span.highs.items;
  all : Holds l.q l.initial.span.lows.items l.initial.span.highs.items l.touched (list_touches (take l.s-index l.all));
}
