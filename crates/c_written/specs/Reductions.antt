-- Reduction clauses that are being read.
use Rattle.std.specs.Prelude.{map}
use Rattle.c_grammar.specs.Updates.{Reduction, Slot, AtName, BehindName, AtFirst, AtColon, AtCount, AtEnd, BehindSection}
use Rattle.c_written.specs.declared.reductions.Reduction.{Reduction as GivenReduction}
use Rattle.c_written.specs.declared.reductions.Slot.{Slot as GivenSlot}
use Rattle.c_written.specs.declared.reductions.Slot.TheVariants as given
use Rattle.c_written.specs.Regions.{seen_operation}

abbrev pub seen_slot : GivenSlot → Slot
seen_slot given.AtName = AtName
seen_slot given.BehindName = BehindName
seen_slot given.AtFirst = AtFirst
seen_slot given.AtColon = AtColon
seen_slot given.AtCount = AtCount
seen_slot given.AtEnd = AtEnd
seen_slot given.BehindSection = BehindSection

abbrev pub seen_reduction : GivenReduction → Reduction
seen_reduction r = record { op = seen_operation r.op; names = map (λ x. x.now) r.names.items; len = r.len }
