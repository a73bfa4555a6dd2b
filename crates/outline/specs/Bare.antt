-- Items that have no region.
use Rattle.std.specs.Prelude.{ℕ, false, None, List, []}
use Rattle.base.specs.declared.item.Depend.{Depend}
use Rattle.base.specs.declared.item.ItemKind.{ItemKind}
use Rattle.base.specs.declared.item.ItemKind.TheVariants.{Wait}
use Rattle.base.specs.declared.item.MapItem.{MapItem}
use Rattle.base.specs.declared.tree.DependText.{DependText}
use Rattle.base.specs.declared.tree.Place.{Place}
use Rattle.base.specs.declared.tree.Tasking.{Tasking}
use Rattle.base.specs.Items.{Work, depends_of, device_of}
use Rattle.outline.specs.declared.items.Head.{Head}

-- an item that has no region
abbrev pub bare_work : Head → List MapItem → List Depend → List ℕ → Work
bare_work head maps depends loops =
    record {
      kind = head.kind;
      place = head.place;
      deferred = head.deferred;
      device = head.device.number;
      maps = maps;
      depends = depends;
      region = None;
      loops = loops;
    }

-- one that may be deferred
abbrev pub tasked_work : ItemKind → Place → List ℕ → List MapItem → Tasking → List ℕ → Work
tasked_work kind place lengths maps t loops =
    record {
      kind = kind;
      place = place;
      deferred = t.nowait;
      device = device_of loops t.device;
      maps = maps;
      depends = depends_of lengths loops t.depends.items;
      region = None;
      loops = loops;
    }

-- a `taskwait`
abbrev pub wait_work : Place → List ℕ → List DependText → List ℕ → Work
wait_work place lengths depends loops =
    record {
      kind = Wait;
      place = place;
      deferred = false;
      device = 0;
      maps = [];
      depends = depends_of lengths loops depends;
      region = None;
      loops = loops;
    }
