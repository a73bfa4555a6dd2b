-- The lines of what the directives of a run did on the tables of the devices.
use Rattle.std.specs.Prelude.{ℕ, Bool, if◌then◌else◌, List, [], ◌∷◌, ◌++◌, Option, Some, None, codes, decimal, find, map, slice_get}
use Rattle.base.specs.declared.item.Event.{Event}
use Rattle.base.specs.declared.item.Event.TheVariants.{Gen, Open, Step, Close, Wait, End}
use Rattle.base.specs.declared.item.Item.{Item}
use Rattle.base.specs.declared.item.ItemKind.{ItemKind}
use Rattle.base.specs.declared.item.ItemKind.TheVariants as kind
use Rattle.base.specs.declared.item.MapItem.{MapItem}
use Rattle.base.specs.declared.item.Section.{Section}
use Rattle.base.specs.declared.tree.Program.{Program}
use Rattle.base.specs.Items.{Work, plan}
use Rattle.base.specs.Map.{Block, Move, Presence, Absent, Inside, InPart, presence, entry, exit, blocks_after, copies_to, copies_from}
use Rattle.base.specs.Memory.{changed, same_section}
use Rattle.report.specs.Listing.{section_text}
use Rattle.maps.specs.declared.deeds.Deed.{Deed}
use Rattle.maps.specs.declared.deeds.Deed.TheVariants.{Enter, Leave, Update}
use Rattle.maps.specs.declared.lines.Spot.{Spot}

-- `line 12 device 0 `
abbrev pub spot_text : Spot → List ℕ
spot_text spot = codes "line " ++ (decimal spot.line ++ (codes " device " ++ (decimal spot.device ++ codes " ")))

-- `line 12 device 0 create A[0:8]`, and likewise for each other act
abbrev pub act_line : Program → Spot → List ℕ → Section → List ℕ
act_line p spot act s = spot_text spot ++ (act ++ (codes " " ++ (section_text p s ++ codes "\n")))

-- the same where it is done
abbrev pub act_line_if : Bool → Program → Spot → List ℕ → Section → List ℕ
act_line_if does p spot act s = if does then act_line p spot act s else []

-- `line 12 device 0 count A[0:8] 1`
abbrev pub count_line : Program → Spot → Section → ℕ → List ℕ
count_line p spot s n =
    spot_text spot ++ (codes "count " ++ (section_text p s ++ (codes " " ++ (decimal n ++ codes "\n"))))

-- how often the block of this section was entered and not yet left: 0 where there is none
abbrev pub count_in : List Block → Section → ℕ
count_in blocks s = elim (find (λ b. same_section b.section s) blocks) [ None ↦ 0 | Some b ↦ b.count ]

-- an entry: the block is created, is counted, and values are copied
abbrev pub entry_lines : Program → Spot → MapItem → Option Move → List ℕ
entry_lines p spot item None = []
entry_lines p spot item (Some m) =
    act_line_if m.changes p spot (codes "create") m.block
    ++ (count_line p spot m.block (count_in m.blocks m.block)
    ++ act_line_if m.copies p spot (codes "copy-to") item.section)

-- an exit of a section that is inside a block
abbrev pub exited : MapItem → List Block → Option Move
exited item blocks = at (presence blocks item.section)
  where
    at : Presence → Option Move
    at Absent = None
    at InPart = None
    at (Inside b) = exit item blocks

-- an exit: values are copied, the block is counted, and is removed
abbrev pub exit_lines : Program → Spot → MapItem → Option Move → List ℕ
exit_lines p spot item None = []
exit_lines p spot item (Some m) =
    act_line_if m.copies p spot (codes "copy-from") item.section
    ++ (count_line p spot m.block (count_in m.blocks m.block)
    ++ act_line_if m.changes p spot (codes "remove") m.block)

-- one section of an update
abbrev pub update_lines : Program → Spot → MapItem → Presence → List ℕ
update_lines p spot item Absent = []
update_lines p spot item InPart = []
update_lines p spot item (Inside b) =
    act_line_if (copies_to item.kind) p spot (codes "copy-to") item.section
    ++ act_line_if (copies_from item.kind) p spot (codes "copy-from") item.section

-- what is done with one map item, on a device with these blocks
abbrev pub deed_lines : Program → Spot → Deed → MapItem → List Block → List ℕ
deed_lines p spot Enter item blocks = entry_lines p spot item (entry item blocks)
deed_lines p spot Leave item blocks = exit_lines p spot item (exited item blocks)
deed_lines p spot Update item blocks = update_lines p spot item (presence blocks item.section)

-- the blocks after it, which stay where it may not be done
abbrev pub after_deed : Deed → MapItem → List Block → List Block
after_deed Enter item blocks = blocks_after blocks (entry item blocks)
after_deed Leave item blocks = blocks_after blocks (exit item blocks)
after_deed Update item blocks = blocks

-- what each in turn tells, where each begins with what those before have left
abbrev pub told : {X S : Type 0} → (X → S → List ℕ) → (X → S → S) → List X → S → List ℕ
told tell next [] s = []
told tell next (x ∷ xs) s = tell x s ++ told tell next xs (next x s)

abbrev pub after : {X S : Type 0} → (X → S → S) → List X → S → S
after next [] s = s
after next (x ∷ xs) s = after next xs (next x s)

-- what is done with the map items of an item when it is opened
abbrev pub at_open : ItemKind → Option Deed
at_open kind.Target = Some Enter
at_open kind.Begin = Some Enter
at_open kind.Enter = Some Enter
at_open kind.End = Some Leave
at_open kind.Exit = Some Leave
at_open kind.Update = Some Update
at_open kind.Host = None
at_open kind.Wait = None

-- and when it is closed
abbrev pub at_close : ItemKind → Option Deed
at_close kind.Target = Some Leave
at_close kind.Host = None
at_close kind.Begin = None
at_close kind.End = None
at_close kind.Enter = None
at_close kind.Exit = None
at_close kind.Update = None
at_close kind.Wait = None

-- what an item does on the tables: its kind, where it stands and its device, and its map items
pub record Role : Type 0 where
  pub kind : ItemKind
  pub spot : Spot
  pub maps : List MapItem

abbrev pub role_of : Item → Role
role_of i = record { kind = i.kind; spot = record { line = i.place.line; device = i.device.number }; maps = i.maps.items }

abbrev pub role_in : Work → Role
role_in w = record { kind = w.kind; spot = record { line = w.place.line; device = w.device }; maps = w.maps }

-- an item, and what is done with its map items
pub record Met : Type 0 where
  pub role : Role
  pub deed : Deed

abbrev pub met : Role → Option Deed → Option Met
met r None = None
met r (Some d) = Some (record { role = r; deed = d })

abbrev pub met_with : (ItemKind → Option Deed) → Option Role → Option Met
met_with deed_of None = None
met_with deed_of (Some r) = met r (deed_of r.kind)

-- what an event does
abbrev pub met_by : List Role → Event → Option Met
met_by roles (Open i) = met_with at_open (slice_get roles i)
met_by roles (Close i) = met_with at_close (slice_get roles i)
met_by roles (Gen i) = None
met_by roles (Step i) = None
met_by roles (Wait i) = None
met_by roles End = None

-- the blocks of each device
abbrev pub Tables : Type 0
Tables = ℕ → List Block

abbrev pub met_lines : Program → Option Met → Tables → List ℕ
met_lines p None tables = []
met_lines p (Some m) tables =
    told (deed_lines p m.role.spot m.deed) (after_deed m.deed) m.role.maps (tables m.role.spot.device)

abbrev pub after_met : Option Met → Tables → Tables
after_met None tables = tables
after_met (Some m) tables =
    changed m.role.spot.device (after (after_deed m.deed) m.role.maps (tables m.role.spot.device)) tables

abbrev pub event_lines : Program → List Role → Event → Tables → List ℕ
event_lines p roles e tables = met_lines p (met_by roles e) tables

abbrev pub after_event : List Role → Event → Tables → Tables
after_event roles e tables = after_met (met_by roles e) tables

-- the lines of the events of items, where the tables are empty at first
abbrev pub maps_bytes : Program → List Role → List Event → List ℕ
maps_bytes p roles history = told (event_lines p roles) (after_event roles) history (λ d. [])

-- those of a run of a program
abbrev pub run_maps_bytes : Program → List Event → List ℕ
run_maps_bytes p history = maps_bytes p (map role_in (plan p).items) history
