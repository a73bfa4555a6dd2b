use Rattle.std.proofs.Common.{◌≡◌, ◌++◌, map, take, drop}
use Rattle.mapwalk.specs.Spots.{lower}
use Rattle.mapwalk.proofs.ordered.lower_all.Given as goal

abbrev pub invariant-each : goal.invariant-each
invariant-each l = l.spots ≡ map (lower l.number) (take l.spot-index l.fn.spots) ++ drop l.spot-index l.fn.spots
