-- After the entries of map items each cell of their sections has storage.
use Rattle.std.proofs.Common.{◌≡◌, ◌⊎◌, ℕ, ◌+◌, Bool, true, false, List, [], ◌∷◌, Option, Some, None, refl, sym, ◌∙◌, ap, inl, inr, subst}
use Rattle.std.specs.Prelude.{◌||◌, option_map, find}
use Rattle.std.specs.List.{list_any}
use Rattle.std.proofs.lemmas.Bool.{false≢true, cases_Bool, or_cases}
use Rattle.std.proofs.lemmas.Option.{same_Some, none-some}
use Rattle.base.specs.declared.item.Cell.{Cell}
use Rattle.base.specs.declared.item.Section.{Section}
use Rattle.base.specs.declared.item.MapItem.{MapItem}
use Rattle.base.specs.Memory.{is_in, is_inside}
use Rattle.base.specs.Map.{Block, Memories, Fill, Move, Inside, presence, when, with_blocks, with_cells, copy_in, entry, entry_copies, enter, in_turn}
use Rattle.base.proofs.Blocks.{meets}
use Rattle.base.proofs.Moves.{is_absent, is_there, is_part, created_move, raised_move, entry_absent, entry_there, entry_part}
use Rattle.two_memories.proofs.MapLists.{AreSized}
use Rattle.two_memories.proofs.MapMoves.{within_yes, within_no, entered_free, after_entry}
use Rattle.two_memories.proofs.MapsFrame.{turn_is}
use Rattle.fine_headline.proofs.Storing.{AreStored, stored_inside, enter_stored}

abbrev pub IsThere : Memories → Cell → Type 0
IsThere m c = (n : ℕ) × (m.device.cells c ≡ Some n)

-- a copy into a section keeps storage
copied_there : (b : Bool) (s : Section) (m : Memories) (c : Cell) → IsThere m c → IsThere (when b (copy_in s) m) c
copied_there false s m c h = h
copied_there true s m c h = go (cases_Bool (is_in c s))
  where
    go : (is_in c s ≡ true) ⊎ (is_in c s ≡ false) → IsThere (copy_in s m) c
    go (inl i) = (m.host c, within_yes s (λ c. Some (m.host c)) m.device.cells c i)
    go (inr i) = (h.0, within_no s (λ c. Some (m.host c)) m.device.cells c i ∙ h.1)

-- new storage for a section
created_there : (fill : Fill) (s : Section) (bs : List Block) (m : Memories) (c : Cell) →
    (is_in c s ≡ true) ⊎ IsThere m c → IsThere (with_cells (λ c. Some (fill c)) s (with_blocks bs m)) c
created_there fill s bs m c h = go (cases_Bool (is_in c s)) h
  where
    go : (is_in c s ≡ true) ⊎ (is_in c s ≡ false) → (is_in c s ≡ true) ⊎ IsThere m c →
        IsThere (with_cells (λ c. Some (fill c)) s (with_blocks bs m)) c
    go (inl i) h = (fill c, within_yes s (λ c. Some (fill c)) m.device.cells c i)
    go (inr i) (inl j) = absurd (false≢true (sym i ∙ j))
    go (inr i) (inr p) = (p.0, within_no s (λ c. Some (fill c)) m.device.cells c i ∙ p.1)

-- an entry: a cell of its section, and one that has storage before it
enter_there : (fill : Fill) (item : MapItem) (m n : Memories) (c : Cell) → AreStored m → enter fill item m ≡ Some n →
    (is_in c item.section ≡ true) ⊎ IsThere m c → IsThere n c
enter_there fill item m n c stored done h = go (find (meets item.section) m.device.blocks) refl
  where
    is_after : (move : Move) → entry item m.device.blocks ≡ Some move → after_entry fill item move m ≡ n
    is_after move e =
        same_Some (after_entry fill item move m) n
        (sym (ap (option_map (λ move. after_entry fill item move m)) e) ∙ done)

    before : (b : Block) → presence m.device.blocks item.section ≡ Inside b →
        (is_in c item.section ≡ true) ⊎ IsThere m c → IsThere m c
    before b e (inl i) = stored_inside m item.section stored b e c i
    before b e (inr p) = p

    go : (o : Option Block) → find (meets item.section) m.device.blocks ≡ o → IsThere n c
    go None f =
        subst (λ n. IsThere n c) (is_after (created_move item m.device.blocks)
        (entry_absent item m.device.blocks (is_absent m.device.blocks item.section f)
        (entered_free fill item m n (is_absent m.device.blocks item.section f) done)))
        (copied_there (entry_copies item 1) item.section
        (with_cells (λ c. Some (fill c)) item.section (with_blocks (created_move item m.device.blocks).blocks m)) c
        (created_there fill item.section (created_move item m.device.blocks).blocks m c h))
    go (Some b) f = by (cases_Bool (is_inside item.section b.section))
      where
        by : (is_inside item.section b.section ≡ true) ⊎ (is_inside item.section b.section ≡ false) → IsThere n c
        by (inl j) =
            let there : presence m.device.blocks item.section ≡ Inside b = is_there m.device.blocks item.section b f j in
            subst (λ n. IsThere n c) (is_after (raised_move item b m.device.blocks)
            (entry_there item m.device.blocks b there))
            (copied_there (entry_copies item (b.count + 1)) item.section
            (with_blocks (raised_move item b m.device.blocks).blocks m) c (before b there h))
        by (inr j) =
            absurd (none-some n (sym (ap (option_map (λ move. after_entry fill item move m))
            (entry_part item m.device.blocks (is_part m.device.blocks item.section b f j))) ∙ done))

-- entries one after the other
pub entries_there : (fill : Fill) (maps : List MapItem) (m n : Memories) (c : Cell) → AreSized maps → AreStored m →
    in_turn (enter fill) maps m ≡ Some n →
    (list_any (λ item. is_in c item.section) maps ≡ true) ⊎ IsThere m c → IsThere n c
entries_there fill [] m n c are stored e (inl h) = absurd (false≢true h)
entries_there fill [] m n c are stored e (inr h) = subst (λ n. IsThere n c) (same_Some m n e) h
entries_there fill (item ∷ rest) m n c are stored e h =
    go (enter fill item m) refl (λ x s e h. entries_there fill rest x n c are.rest s e h)
  where
    next : (x : Memories) → enter fill item m ≡ Some x →
        ((is_in c item.section || list_any (λ item. is_in c item.section) rest) ≡ true) ⊎ IsThere m c →
        (list_any (λ item. is_in c item.section) rest ≡ true) ⊎ IsThere x c
    next x q (inr p) = inr (enter_there fill item m x c stored q (inr p))
    next x q (inl h) = by (or_cases (is_in c item.section) (list_any (λ item. is_in c item.section) rest) h)
      where
        by : (is_in c item.section ≡ true) ⊎ (list_any (λ item. is_in c item.section) rest ≡ true) →
            (list_any (λ item. is_in c item.section) rest ≡ true) ⊎ IsThere x c
        by (inl i) = inr (enter_there fill item m x c stored q (inl i))
        by (inr i) = inl i

    go : (o : Option Memories) → enter fill item m ≡ o →
        ((x : Memories) → AreStored x → in_turn (enter fill) rest x ≡ Some n →
        (list_any (λ item. is_in c item.section) rest ≡ true) ⊎ IsThere x c → IsThere n c) → IsThere n c
    go None q again = absurd (none-some n (sym (turn_is (enter fill) item rest m None q) ∙ e))
    go (Some x) q again =
        again x (enter_stored fill item m x are.size stored q) (sym (turn_is (enter fill) item rest m (Some x) q) ∙ e)
        (next x q h)
