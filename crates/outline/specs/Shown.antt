-- What the items of an outline stand for.
use Rattle.std.specs.Prelude.{Option, Some, None, option_map, List, map, slice_get}
use Rattle.base.specs.declared.tree.Region.{Region}
use Rattle.base.specs.declared.item.Item.{Item}
use Rattle.base.specs.Items.{Work}
use Rattle.outline.specs.Regions.{Entry}

abbrev pub work_with : Item → Option Region → Work
work_with i r =
    record {
      kind = i.kind;
      place = i.place;
      deferred = i.deferred;
      device = i.device.number;
      maps = i.maps.items;
      depends = i.depends.items;
      region = r;
      loops = i.loops.values.items;
    }

-- the item with its region in full, or none where it names a region that there is not
abbrev pub shown : List Entry → Item → Option Work
shown entries i = elim i.region [
  | None ↦ Some (work_with i None)
  | Some k ↦ option_map (λ e. work_with i (Some e.region)) (slice_get entries k)
]

abbrev pub all_shown : List Entry → List Item → List (Option Work)
all_shown entries items = map (shown entries) items

abbrev pub as_shown : List Work → List (Option Work)
as_shown works = map (λ w. Some w) works
