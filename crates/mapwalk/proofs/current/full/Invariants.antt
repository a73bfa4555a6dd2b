use Rattle.std.proofs.Common.{◌≡◌, map}
use Rattle.std.specs.Prelude.{filter}
use Rattle.std.specs.List.{range_with_len}
use Rattle.mapwalk.specs.Current.{array_number, is_full_in}
use Rattle.mapwalk.proofs.current.full.Given as goal

abbrev pub invariant-arrays : goal.invariant-arrays
invariant-arrays l = map array_number l.full.items ≡ filter (is_full_in l.side) (range_with_len 0 l.array)
