use Rattle.std.proofs.Common.{◌≡◌, map, take}
use Rattle.outline.specs.Regions.{entry_of}
use Rattle.lower.specs.Image.{region_of}
use Rattle.lower.proofs.image.codes.Given as goal

abbrev pub invariant-entries : goal.invariant-entries
invariant-entries l = l.codes.items ≡ map region_of (map entry_of (take l.entry-index l.entry-items))
