-- The region of an item.
use Rattle.std.specs.Prelude.{Option, Some, None, List, option_map, slice_get}
use Rattle.base.specs.declared.item.Item.{Item}
use Rattle.base.specs.declared.tree.Region.{Region}
use Rattle.outline.specs.Regions.{Entry}

-- the region of an item, of the regions with these entries
abbrev pub region_in : List Entry → Item → Option Region
region_in entries it = elim it.region [ None ↦ None | Some k ↦ option_map (λ (x : Entry). x.region) (slice_get entries k) ]
