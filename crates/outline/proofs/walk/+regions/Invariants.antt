use Rattle.std.proofs.Common.{◌≡◌, ◌-◌, ◌^◌, min, take}
use Rattle.outline.specs.Walk.{list_regions}
use Rattle.outline.proofs.walk.+regions.Given as goal

abbrev pub invariant-regions_in_all-parts : goal.invariant-regions_in_all-parts
invariant-regions_in_all-parts l = l.total ≡ min (list_regions (take l.part-index l.parts)) (2 ^ 32 - 1)
