-- What is known of an item's next action in program order, from the walk of its map items and the footprint of its
-- region.
use Rattle.std.proofs.Common.{◌≡◌, ◌⊎◌, ℕ, ◌<◌, ◌≤◌, ◌^◌, true, List, ◌∷◌, Some}
use Rattle.std.specs.Prelude.{find}
use Rattle.base.specs.declared.item.Cell.{Cell}
use Rattle.base.specs.declared.item.Section.{Section}
use Rattle.base.specs.declared.item.MapItem.{MapItem}
use Rattle.base.specs.declared.item.MapKind.TheVariants.{Delete}
use Rattle.base.specs.Actions.{Dev, Tab}
use Rattle.base.specs.Memory.{is_in, is_inside}
use Rattle.base.specs.Items.{Plan}
use Rattle.base.specs.Map.{Block, Memories, Fill}
use Rattle.base.specs.Blocks.{holder}
use Rattle.base.specs.Actions.{entry_acts, exit_acts}
use Rattle.base.proofs.Blocks.{meets}
use Rattle.fine_machine.specs.Left.{Left, Finished, Asks, Request, Load, Store, Combine, Enter, Leave, Remove, CopyIn, CopyOut, Answer}
use Rattle.fine_machine.specs.Action.{act}
use Rattle.two_memories.specs.Two.{number_inside, AreEntered}
use Rattle.two_memories.proofs.LikeMemories.{Covers}
use Rattle.two_memories.proofs.AdjustedCounts.{access_of}
use Rattle.two_memories.proofs.EntryFrame.{IsThere}
use Rattle.fine_headline.specs.FineState.{is_resting, entered_now, all_but_first}
use Rattle.fine_headline.proofs.Cells.{IsAllowed}

-- a block has a count above what the item rests in it, or the item rests nothing there and alone may change it
abbrev pub IsStanding : Plan → ℕ → List MapItem → Block → Type 0
IsStanding plan i ms b =
    (number_inside ms b.section < b.count)
    ⊎ ((number_inside ms b.section ≡ 0)
    × ((x : Cell) → is_in x b.section ≡ true → (access_of plan i).writes Tab x ≡ true))

abbrev pub Stands : Plan → ℕ → List MapItem → List Block → Type 0
Stands plan i ms bs = (c : Cell) (b : Block) → holder bs c ≡ Some b → IsStanding plan i ms b

pub record EntersHere (plan : Plan) (i : ℕ) (item : MapItem) (ms : List MapItem) (bs : List Block) : Type 0 where
  pub size : 1 ≤ item.section.length
  pub stands : Stands plan i ms bs
  pub entered : AreEntered bs
  pub covers : Covers (entry_acts (is_resting plan i) item bs).actions (access_of plan i)
  pub there : is_resting plan i item ≡ true → IsThere bs item

pub record LeavesHere (plan : Plan) (i : ℕ) (item : MapItem) (ms : List MapItem) (bs : List Block) : Type 0 where
  pub size : 1 ≤ item.section.length
  pub stands : Stands plan i ms bs
  pub covers : Covers (exit_acts (is_resting plan i) item bs).actions (access_of plan i)
  pub there : is_resting plan i item ≡ true → IsThere bs item
  pub keeps : is_resting plan i item ≡ true → item.kind ≡ Delete → ⊥
  pub first : is_resting plan i item ≡ true → ms ≡ item ∷ all_but_first ms

pub record RemovesHere (plan : Plan) (i : ℕ) (s : Section) (ms : List MapItem) (bs : List Block) : Type 0 where
  pub size : 1 ≤ s.length
  pub stands : Stands plan i ms bs
  pub block : Block
  pub found : find (meets s) bs ≡ Some block
  pub inside : is_inside s block.section ≡ true
  pub table : (c : Cell) → is_in c block.section ≡ true → (access_of plan i).writes Tab c ≡ true
  pub cells : (c : Cell) → is_in c block.section ≡ true → (access_of plan i).writes Dev c ≡ true

-- what is known of an action, where the item has entered and rests these and program order has these blocks
abbrev pub Walked : Plan → ℕ → Request → List MapItem → List Block → Type 0
Walked plan i (Enter item) ms bs = EntersHere plan i item ms bs
Walked plan i (Leave item) ms bs = LeavesHere plan i item ms bs
Walked plan i (Remove s) ms bs = RemovesHere plan i s ms bs
Walked plan i (Load side c) ms bs = IsAllowed plan i (Load side c)
Walked plan i (Store side c n) ms bs = IsAllowed plan i (Store side c n)
Walked plan i (Combine side op c n) ms bs = IsAllowed plan i (Combine side op c n)
Walked plan i (CopyIn c) ms bs = IsAllowed plan i (CopyIn c)
Walked plan i (CopyOut c) ms bs = IsAllowed plan i (CopyOut c)

-- what is left of an item in program order: each action is known, and the item ends with these blocks
abbrev pub InWalk : Plan → Fill → ℕ → List Block → List MapItem → List Block → Left → Type 0
InWalk plan fill i after ms bs (Finished t) = bs ≡ after
InWalk plan fill i after ms bs (Asks r k) =
    Walked plan i r ms bs
    × ((x : Answer) (m n : Memories) → m.device.blocks ≡ bs → x.number < 2 ^ 64 → act plan.lengths fill r m ≡ Some
    (x, n) →
    InWalk plan fill i after (entered_now (is_resting plan i) r ms) n.device.blocks (k x))
