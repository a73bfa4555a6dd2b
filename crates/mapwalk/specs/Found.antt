-- Footprints of items, each kept once.
use Rattle.std.specs.Prelude.{List, Option, None, map, get_or}
use Rattle.ranges.specs.declared.cells.Footprint.{Footprint}
use Rattle.mapwalk.specs.declared.found.Footprints.{Footprints}
use Rattle.mapwalk.specs.declared.found.Next.{Next}
use Rattle.mapwalk.specs.declared.found.Next.TheVariants.{Own, Shared}

-- the footprint of each item
abbrev pub all_found : Footprints → List (Option Footprint)
all_found f = map (λ k. get_or f.distinct.items k None) f.numbers.items

-- the footprint of the next item
abbrev pub told : List (Option Footprint) → Next → Option Footprint
told found (Own f) = f
told found (Shared earlier) = get_or found earlier None
