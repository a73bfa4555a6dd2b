-- What a single action does to the memories.
use Rattle.std.specs.Prelude.{ℕ, Bool, true, false, ◌==◌, List, Option, Some, None, map, if◌then◌else◌, option_map}
use Rattle.base.specs.declared.item.Cell.{Cell}
use Rattle.base.specs.declared.item.Section.{Section}
use Rattle.base.specs.declared.item.MapItem.{MapItem}
use Rattle.base.specs.Memory.{same_cell, is_cell}
use Rattle.base.specs.Value.{combined}
use Rattle.base.specs.Map.{Memories, Fill, Presence, Absent, Inside, InPart, presence, entry, exit_count, exit_copies, counted, without, when, with_blocks, with_cells}
use Rattle.fine_machine.specs.Left.{OnHost, OnDevice, Request, Load, Store, Combine, Enter, Leave, Remove, CopyIn, CopyOut, Answer}

abbrev pub loaded : ℕ → Answer
loaded n = record { number = n; copies = false; removes = false }

abbrev pub decided : Bool → Bool → Answer
decided copies removes = record { number = 0; copies = copies; removes = removes }

abbrev pub with_host : Cell → ℕ → Memories → Memories
with_host c n m = record m { host = λ d. if same_cell c d then n else m.host d }

abbrev pub with_device : Cell → ℕ → Memories → Memories
with_device c n m =
    record m { device = record (m.device) { cells = λ d. if same_cell c d then Some n else m.device.cells d } }

-- a host cell lies in its array
abbrev pub on_cell : {A : Type 0} → Bool → A → Option A
on_cell true a = Some a
on_cell false a = None

-- the table step of an exit
abbrev pub lowered : MapItem → Memories → Option (Answer × Memories)
lowered item m = at (presence m.device.blocks item.section)
  where
    at : Presence → Option (Answer × Memories)
    at Absent = Some (decided false false, m)
    at (Inside b) =
        let n = exit_count item.kind b.count in
        Some (decided (exit_copies item n) (n == 0), with_blocks (map (counted b.section n) m.device.blocks) m)
    at InPart = None

-- the block that contains the section loses its storage
abbrev pub removed : Section → Memories → Memories
removed s m = at (presence m.device.blocks s)
  where
    at : Presence → Memories
    at Absent = m
    at (Inside b) = with_blocks (without m.device.blocks b.section) (with_cells (λ c. None) b.section m)
    at InPart = m

-- an action on the memories, or none where it fails: a cell is not there, or a section overlaps a block in part
abbrev pub act : List ℕ → Fill → Request → Memories → Option (Answer × Memories)
act lengths fill (Load OnHost c) m = on_cell (is_cell lengths c) (loaded (m.host c), m)
act lengths fill (Load OnDevice c) m = option_map (λ n. (loaded n, m)) (m.device.cells c)
act lengths fill (Store OnHost c n) m = on_cell (is_cell lengths c) (loaded 0, with_host c n m)
act lengths fill (Store OnDevice c n) m = option_map (λ old. (loaded 0, with_device c n m)) (m.device.cells c)
act lengths fill (Combine OnHost op c n) m =
    on_cell (is_cell lengths c) (loaded 0, with_host c (combined op (m.host c) n) m)
act lengths fill (Combine OnDevice op c n) m =
    option_map (λ old. (loaded 0, with_device c (combined op old n) m)) (m.device.cells c)
act lengths fill (Enter item) m =
    option_map
    (λ move. (
      decided move.copies false,
      when move.changes (with_cells (λ c. Some (fill c)) move.block) (with_blocks move.blocks m),
    ))
    (entry item m.device.blocks)
act lengths fill (Leave item) m = lowered item m
act lengths fill (Remove s) m = Some (loaded 0, removed s m)
act lengths fill (CopyIn c) m = option_map (λ old. (loaded 0, with_device c (m.host c) m)) (m.device.cells c)
act lengths fill (CopyOut c) m = option_map (λ n. (loaded 0, with_host c n m)) (m.device.cells c)
