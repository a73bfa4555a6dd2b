use Rattle.std.proofs.Common.{◌≡◌, take, flat_map, string_bytes}
use Rattle.report.specs.Listing.{map_text}
use Rattle.report.proofs.listing.maps_text.Given as goal

abbrev pub invariant-maps : goal.invariant-maps
invariant-maps l = string_bytes l.text ≡ flat_map (map_text l.program) (take l.map-index l.maps)
