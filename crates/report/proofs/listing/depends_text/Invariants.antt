use Rattle.std.proofs.Common.{◌≡◌, take, flat_map, string_bytes}
use Rattle.report.specs.Listing.{depend_text}
use Rattle.report.proofs.listing.depends_text.Given as goal

abbrev pub invariant-depends : goal.invariant-depends
invariant-depends l = string_bytes l.text ≡ flat_map (depend_text l.program) (take l.depend-index l.depends)
