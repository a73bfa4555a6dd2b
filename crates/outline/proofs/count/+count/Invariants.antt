use Rattle.std.proofs.Common.{◌≡◌, ◌-◌, ◌^◌, min, take}
use Rattle.outline.specs.Counts.{list_count}
use Rattle.outline.proofs.count.+count.Given as goal

abbrev pub invariant-count_all-parts : goal.invariant-count_all-parts
invariant-count_all-parts l = l.total ≡ min (list_count (take l.part-index l.parts)) (2 ^ 64 - 1)
