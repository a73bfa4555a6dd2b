-- Entries, exits and updates, by where their sections lie.
use Rattle.std.proofs.Common.{◌≡◌, ◌+◌, Bool, true, false, ◌==◌, List, [], ◌∷◌, ◌++◌, map, Option, Some, None, refl, ◌∙◌, ap}
use Rattle.std.specs.Prelude.{if◌then◌else◌, find}
use Rattle.std.proofs.lemmas.Bool.{cond-true, cond-false}
use Rattle.base.specs.declared.item.Section.{Section}
use Rattle.base.specs.declared.item.MapItem.{MapItem}
use Rattle.base.specs.Memory.{is_inside}
use Rattle.base.specs.Map.{Block, Memories, Move, Presence, Absent, Inside, InPart, copies_from, copies_to, copy_in, copy_out, counted, entry, entry_copies, exit, exit_copies, exit_count, presence, update, when, without}
use Rattle.base.specs.Actions.{Acted, CopiesIn, CopiesOut, Counts, here, only_if}
use Rattle.base.proofs.Blocks.{meets, judge, presence_is}

-- Where a section lies.

pub is_absent : (blocks : List Block) (s : Section) → find (meets s) blocks ≡ None → presence blocks s ≡ Absent
is_absent blocks s e = presence_is blocks s ∙ ap (judge s) e

pub is_there : (blocks : List Block) (s : Section) (b : Block) →
    find (meets s) blocks ≡ Some b →
    is_inside s b.section ≡ true →
    presence blocks s ≡ Inside b
is_there blocks s b e i = presence_is blocks s ∙
    (ap (judge s) e ∙ cond-true (is_inside s b.section) (Inside b) InPart i)

pub is_part : (blocks : List Block) (s : Section) (b : Block) →
    find (meets s) blocks ≡ Some b →
    is_inside s b.section ≡ false →
    presence blocks s ≡ InPart
is_part blocks s b e i = presence_is blocks s ∙
    (ap (judge s) e ∙ cond-false (is_inside s b.section) (Inside b) InPart i)

-- Entries.

abbrev pub created_move : MapItem → List Block → Move
created_move item blocks = record {
  block = item.section;
  changes = true;
  copies = entry_copies item 1;
  blocks = blocks ++ record { section = item.section; count = 1 } ∷ [];
}

abbrev pub raised_move : MapItem → Block → List Block → Move
raised_move item b blocks = record {
  block = b.section;
  changes = false;
  copies = entry_copies item (b.count + 1);
  blocks = map (counted b.section (b.count + 1)) blocks;
}

pub entry_absent : (item : MapItem) (blocks : List Block) →
    presence blocks item.section ≡ Absent →
    item.present ≡ false →
    entry item blocks ≡ Some (created_move item blocks)
entry_absent item blocks e p = rw (e, p, entry) refl

pub entry_missing : (item : MapItem) (blocks : List Block) →
    presence blocks item.section ≡ Absent →
    item.present ≡ true →
    entry item blocks ≡ None
entry_missing item blocks e p = rw (e, p, entry) refl

pub entry_there : (item : MapItem) (blocks : List Block) (b : Block) →
    presence blocks item.section ≡ Inside b →
    entry item blocks ≡ Some (raised_move item b blocks)
entry_there item blocks b e = rw (e, entry) refl

pub entry_part : (item : MapItem) (blocks : List Block) → presence blocks item.section ≡ InPart →
    entry item blocks ≡ None
entry_part item blocks e = rw (e, entry) refl

-- Exits.

abbrev pub ignored_move : MapItem → List Block → Move
ignored_move item blocks = record { block = item.section; changes = false; copies = false; blocks = blocks }

abbrev pub lowered_move : MapItem → Block → List Block → Move
lowered_move item b blocks =
    let n = exit_count item.kind b.count in
    record {
      block = b.section;
      changes = n == 0;
      copies = exit_copies item n;
      blocks = if n == 0 then without blocks b.section else map (counted b.section n) blocks;
    }

pub exit_absent : (item : MapItem) (blocks : List Block) →
    presence blocks item.section ≡ Absent →
    exit item blocks ≡ Some (ignored_move item blocks)
exit_absent item blocks e = rw (e, exit) refl

pub exit_there : (item : MapItem) (blocks : List Block) (b : Block) →
    presence blocks item.section ≡ Inside b →
    exit item blocks ≡ Some (lowered_move item b blocks)
exit_there item blocks b e = rw (e, exit) refl

pub exit_part : (item : MapItem) (blocks : List Block) → presence blocks item.section ≡ InPart → exit item blocks ≡ None
exit_part item blocks e = rw (e, exit) refl

-- Updates.

-- the memories after an update
abbrev pub update_at : MapItem → Memories → Presence → Option Memories
update_at item m Absent = if item.present then None else Some m
update_at item m (Inside b) =
    Some (when (copies_from item.kind) (copy_out item.section) (when (copies_to item.kind) (copy_in item.section) m))
update_at item m InPart = None

-- what it does to the section
abbrev pub update_acts_of : MapItem → List Block → Presence → Acted
update_acts_of item blocks Absent =
    record { actions = Counts item.section true ∷ []; met = here item blocks; blocks = blocks }
update_acts_of item blocks InPart = record { actions = []; met = here item blocks; blocks = blocks }
update_acts_of item blocks (Inside b) = record {
  actions =
      Counts b.section true ∷
      (only_if (copies_to item.kind) (CopiesIn item.section) ++ only_if (copies_from item.kind)
      (CopiesOut item.section));
  met = here item blocks;
  blocks = blocks;
}

pub update_absent : (item : MapItem) (m : Memories) →
    presence m.device.blocks item.section ≡ Absent →
    item.present ≡ false →
    update item m ≡ Some m
update_absent item m e p = rw (e, p, update) refl

pub update_missing : (item : MapItem) (m : Memories) →
    presence m.device.blocks item.section ≡ Absent →
    item.present ≡ true →
    update item m ≡ None
update_missing item m e p = rw (e, p, update) refl

pub update_part : (item : MapItem) (m : Memories) → presence m.device.blocks item.section ≡ InPart →
    update item m ≡ None
update_part item m e = rw (e, update) refl

-- copies leave the blocks
pub copied_blocks : (b : Bool) (s : Section) (m : Memories) → (when b (copy_in s) m).device.blocks ≡ m.device.blocks
copied_blocks true s m = refl
copied_blocks false s m = refl
