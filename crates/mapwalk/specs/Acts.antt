-- What the map items of an item do on the table.
use Rattle.std.specs.Prelude.{ℕ, Bool, true, false, List, [], ◌∷◌, Option, Some, None, map}
use Rattle.base.specs.declared.item.Section.{Section}
use Rattle.base.specs.declared.item.MapItem.{MapItem}
use Rattle.base.specs.declared.item.ItemKind.{ItemKind}
use Rattle.base.specs.declared.item.ItemKind.TheVariants as kind
use Rattle.base.specs.Memory.{changed}
use Rattle.base.specs.Items.{Work}
use Rattle.base.specs.Map.{Block, Move, Presence, Absent, Inside, InPart, presence, entry, exit, blocks_after, copies_to, copies_from}
use Rattle.base.specs.Actions.{acts_of, always_works, rests}
use Rattle.mapwalk.specs.declared.rows.Acts.{Acts}

-- the table is looked at, or counts, and no more
abbrev pub looks : Bool → Section → Acts
looks resting s =
    record { block = s; creates = false; copies_in = false; copies_out = false; removes = false; rests = resting }

-- an entry
abbrev pub entered : Bool → Move → Acts
entered resting m =
    record { block = m.block; creates = m.changes; copies_in = m.copies; copies_out = false; removes = false; rests = resting }

-- an exit
abbrev pub left : Bool → Move → Acts
left resting m =
    record { block = m.block; creates = false; copies_in = false; copies_out = m.copies; removes = m.changes; rests = resting }

-- one section of an update
abbrev pub updated : MapItem → Presence → Acts
updated item Absent = looks true item.section
updated item InPart = looks true item.section
updated item (Inside b) =
    record {
      block = b.section;
      creates = false;
      copies_in = copies_to item.kind;
      copies_out = copies_from item.kind;
      removes = false;
      rests = true;
    }

-- where a section overlaps a block in part, nothing is done
abbrev pub moved : (Move → Acts) → Section → Option Move → Acts
moved f s None = looks true s
moved f s (Some m) = f m

abbrev pub entry_of : Bool → MapItem → List Block → Acts
entry_of resting item blocks = moved (entered resting) item.section (entry item blocks)

abbrev pub exit_of : Bool → MapItem → List Block → Acts
exit_of resting item blocks = moved (left resting) item.section (exit item blocks)

-- entries in turn
abbrev pub entry_row : (MapItem → Bool) → List MapItem → List Block → List Acts
entry_row resting [] blocks = []
entry_row resting (item ∷ rest) blocks =
    entry_of (resting item) item blocks ∷ entry_row resting rest (blocks_after blocks (entry item blocks))

abbrev pub entries_after : List MapItem → List Block → List Block
entries_after [] blocks = blocks
entries_after (item ∷ rest) blocks = entries_after rest (blocks_after blocks (entry item blocks))

-- exits in turn
abbrev pub exit_row : (MapItem → Bool) → List MapItem → List Block → List Acts
exit_row resting [] blocks = []
exit_row resting (item ∷ rest) blocks =
    exit_of (resting item) item blocks ∷ exit_row resting rest (blocks_after blocks (exit item blocks))

abbrev pub exits_after : List MapItem → List Block → List Block
exits_after [] blocks = blocks
exits_after (item ∷ rest) blocks = exits_after rest (blocks_after blocks (exit item blocks))

abbrev pub update_row : List MapItem → List Block → List Acts
update_row maps blocks = map (λ item. updated item (presence blocks item.section)) maps

-- the entry and the exit of one map item of a target
abbrev pub both : Acts → Acts → Acts
both a b = record a { copies_out = b.copies_out; removes = b.removes }

abbrev pub joined : List Acts → List Acts → List Acts
joined [] exits = []
joined (a ∷ entries) [] = a ∷ entries
joined (a ∷ entries) (b ∷ exits) = both a b ∷ joined entries exits

-- what the map items of an item do, in order
abbrev pub acts_row : Work → List Block → List Acts
acts_row w blocks = at w.kind
  where
    at : ItemKind → List Acts
    at kind.Host = []
    at kind.Target =
        joined (entry_row (rests blocks) w.maps blocks) (exit_row (rests blocks) w.maps (entries_after w.maps blocks))
    at kind.Begin = entry_row always_works w.maps blocks
    at kind.Enter = entry_row always_works w.maps blocks
    at kind.End = exit_row always_works w.maps blocks
    at kind.Exit = exit_row always_works w.maps blocks
    at kind.Update = update_row w.maps blocks
    at kind.Wait = []

-- the rows of items, one after the other, from these blocks of each device
abbrev pub acts_rows : List Work → (ℕ → List Block) → List (List Acts)
acts_rows [] tables = []
acts_rows (w ∷ rest) tables =
    acts_row w (tables w.device) ∷ acts_rows rest (changed w.device (acts_of w (tables w.device)).blocks tables)
