use Rattle.std.proofs.Common.{◌≡◌, ◌++◌, map, take}
use Rattle.outline.specs.Regions.{entry_of, list_entries}
use Rattle.outline.proofs.entries.+entries.Given as goal

abbrev pub invariant-add_all-parts : goal.invariant-add_all-parts
invariant-add_all-parts l = map entry_of l.regions.items
    ≡ map entry_of l.initial.regions.items ++ list_entries l.counts.scalars l.counts.arrays (take l.part-index l.parts)
