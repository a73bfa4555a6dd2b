use Rattle.std.proofs.Common.{◌≡◌, take}
use Rattle.ranges.specs.Seen.{list_touches, seen_in}
use Rattle.ranges.specs.Settled.{Settles}
use Rattle.ranges.proofs.state.Walk.+settles.Given as goal

abbrev pub invariant-settles_all-loop-s : goal.invariant-settles_all-loop-s
invariant-settles_all-loop-s l = record {
  lows : l.span.lows.items ≡ l.initial.span.lows.items;
  highs : l.span.highs.items ≡ l.initial.span.highs.items;
  all : Settles l.lengths (seen_in l.self) l.initial.span.lows.items l.initial.span.highs.items l.certain
      (list_touches (take l.s-index l.all));
}
