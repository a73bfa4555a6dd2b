-- Accesses whose cell moves on by one in each turn of a loop.
use Rattle.std.proofs.Common.{ℕ, zero, suc, ◌+◌, List, [], ◌++◌, map}
use Rattle.std.specs.Prelude.{None}
use Rattle.base.specs.Footprint.{Touch}
use Rattle.base.specs.Interval.{exactly}
use Rattle.ranges.specs.declared.slide.Slide.{Slide}

-- what it touches once it has moved on by so many cells
abbrev pub near_touch : ℕ → Slide → Touch
near_touch x s = record {
  array = s.array;
  cells = exactly (s.start + x);
  is_write = s.writes;
  certain = s.certain;
  combines = None;
  place = s.place;
}

-- n turns from where it has moved on by x
abbrev pub near_turns : ℕ → ℕ → List Slide → List Touch
near_turns zero x slides = []
near_turns (suc n) x slides = map (near_touch x) slides ++ near_turns n (x + 1) slides
