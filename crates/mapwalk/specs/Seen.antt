-- What stands against map items, met by met.
use Rattle.std.specs.Prelude.{nat_lt, max, ◌&&◌, ◌==◌, if◌then◌else◌, List, [], ◌∷◌, Option, Some, None, map}
use Rattle.base.specs.declared.item.Cell.{Cell}
use Rattle.base.specs.declared.item.Section.{Section}
use Rattle.base.specs.declared.item.MapItem.{MapItem}
use Rattle.base.specs.Least.{is_less}
use Rattle.base.specs.Memory.{end_of}
use Rattle.base.specs.Map.{Block, Presence, Absent, Inside, InPart, presence, entry, exit, blocks_after}
use Rattle.base.specs.Actions.{Met}
use Rattle.base.specs.Accepted.{first_cell}
use Rattle.mapwalk.specs.declared.seen.Seen.{Seen}

-- the lesser of two cells, the second of which may be missing
abbrev pub lesser : Cell → Option Cell → Cell
lesser c None = c
lesser c (Some d) = if is_less c d then c else d

-- the first cell that two sections share
abbrev pub shared : Section → Section → Option Cell
shared s t =
    let k = max s.first t.first in
    if (s.array.0 == t.array.0) && (nat_lt k (end_of s) && nat_lt k (end_of t))
    then Some (record { array = s.array; index = k })
    else None

abbrev pub also : Option Cell → Option Cell → Option Cell
also None found = found
also (Some c) found = Some (lesser c found)

-- the least cell that a section shares with a block, and what was found before
abbrev pub least_shared : Section → List Block → Option Cell → Option Cell
least_shared s [] found = found
least_shared s (b ∷ rest) found = least_shared s rest (also (shared s b.section) found)

abbrev pub nothing : Seen
nothing = record { in_part = None; absent = None; missing = None }

-- a section that is absent
abbrev pub seen_absent : MapItem → Seen → Seen
seen_absent item seen =
    if item.present
    then record seen { missing = Some (lesser (first_cell item.section) seen.missing) }
    else record seen { absent = Some (lesser (first_cell item.section) seen.absent) }

abbrev pub seen_at : MapItem → List Block → Seen → Seen
seen_at item blocks seen = at (presence blocks item.section)
  where
    at : Presence → Seen
    at Absent = seen_absent item seen
    at (Inside b) = seen
    at InPart = record seen { in_part = least_shared item.section blocks seen.in_part }

abbrev pub seen_all : List Met → Seen → Seen
seen_all [] seen = seen
seen_all (m ∷ rest) seen = seen_all rest (seen_at m.item m.blocks seen)

-- what entries in turn meet, and exits, and updates
abbrev pub entry_mets : List MapItem → List Block → List Met
entry_mets [] blocks = []
entry_mets (item ∷ rest) blocks =
    record { item = item; blocks = blocks } ∷ entry_mets rest (blocks_after blocks (entry item blocks))

abbrev pub exit_mets : List MapItem → List Block → List Met
exit_mets [] blocks = []
exit_mets (item ∷ rest) blocks =
    record { item = item; blocks = blocks } ∷ exit_mets rest (blocks_after blocks (exit item blocks))

abbrev pub update_mets : List MapItem → List Block → List Met
update_mets maps blocks = map (λ item. record { item = item; blocks = blocks }) maps
