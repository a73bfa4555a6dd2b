-- What the map items of an item do, by its kind: before its region, after it, and what they meet.
use Rattle.std.specs.Prelude.{List, [], ◌++◌}
use Rattle.base.specs.declared.item.MapItem.{MapItem}
use Rattle.base.specs.declared.item.ItemKind.{ItemKind}
use Rattle.base.specs.declared.item.ItemKind.TheVariants as kind
use Rattle.base.specs.Map.{Block}
use Rattle.base.specs.Actions.{Met, always_works, rests}
use Rattle.mapwalk.specs.declared.rows.Acts.{Acts}
use Rattle.mapwalk.specs.Acts.{entries_after, entry_row, exit_row, exits_after, joined, update_row}
use Rattle.mapwalk.specs.Seen.{entry_mets, exit_mets, update_mets}

abbrev pub before_region : ItemKind → List MapItem → List Block → List Acts
before_region kind.Host maps blocks = []
before_region kind.Target maps blocks = entry_row (rests blocks) maps blocks
before_region kind.Begin maps blocks = entry_row always_works maps blocks
before_region kind.Enter maps blocks = entry_row always_works maps blocks
before_region kind.End maps blocks = []
before_region kind.Exit maps blocks = []
before_region kind.Update maps blocks = update_row maps blocks
before_region kind.Wait maps blocks = []

abbrev pub after_region : ItemKind → List MapItem → List Block → List Acts
after_region kind.Host maps blocks = []
after_region kind.Target maps blocks = exit_row (rests blocks) maps (entries_after maps blocks)
after_region kind.Begin maps blocks = []
after_region kind.Enter maps blocks = []
after_region kind.End maps blocks = exit_row always_works maps blocks
after_region kind.Exit maps blocks = exit_row always_works maps blocks
after_region kind.Update maps blocks = []
after_region kind.Wait maps blocks = []

abbrev pub after_maps : ItemKind → List MapItem → List Block → List Block
after_maps kind.Host maps blocks = blocks
after_maps kind.Target maps blocks = exits_after maps (entries_after maps blocks)
after_maps kind.Begin maps blocks = entries_after maps blocks
after_maps kind.Enter maps blocks = entries_after maps blocks
after_maps kind.End maps blocks = exits_after maps blocks
after_maps kind.Exit maps blocks = exits_after maps blocks
after_maps kind.Update maps blocks = blocks
after_maps kind.Wait maps blocks = blocks

abbrev pub met_by : ItemKind → List MapItem → List Block → List Met
met_by kind.Host maps blocks = []
met_by kind.Target maps blocks = entry_mets maps blocks ++ exit_mets maps (entries_after maps blocks)
met_by kind.Begin maps blocks = entry_mets maps blocks
met_by kind.Enter maps blocks = entry_mets maps blocks
met_by kind.End maps blocks = exit_mets maps blocks
met_by kind.Exit maps blocks = exit_mets maps blocks
met_by kind.Update maps blocks = update_mets maps blocks
met_by kind.Wait maps blocks = []

-- the row of an item
abbrev pub joined_by : ItemKind → List Acts → List Acts → List Acts
joined_by kind.Host before after = before
joined_by kind.Target before after = joined before after
joined_by kind.Begin before after = before
joined_by kind.Enter before after = before
joined_by kind.End before after = after
joined_by kind.Exit before after = after
joined_by kind.Update before after = before
joined_by kind.Wait before after = before
