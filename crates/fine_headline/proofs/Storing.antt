-- Where a block lies, the device has storage: an entry, an exit, an update and a kernel's stores keep it.
use Rattle.std.proofs.Common.{◌≡◌, ◌⊎◌, ℕ, ◌+◌, ◌≤◌, ◌==◌, Bool, true, false, [], ◌∷◌, ◌++◌, map, Option, Some, None, refl, sym, ◌∙◌, ap, inl, inr, subst}
use Rattle.std.specs.Prelude.{option_map, find, unwrap_or, if◌then◌else◌}
use Rattle.std.proofs.lemmas.Bool.{cases_Bool}
use Rattle.std.proofs.lemmas.Option.{same_Some, none-some}
use Rattle.base.specs.declared.item.Cell.{Cell}
use Rattle.base.specs.declared.item.Section.{Section}
use Rattle.base.specs.declared.item.MapItem.{MapItem}
use Rattle.base.specs.Memory.{Stores, is_in, is_inside, last_stored}
use Rattle.base.specs.Meaning.{seen}
use Rattle.base.specs.Map.{Device, Block, Memories, Fill, Move, Inside, presence, counted, without, when, with_blocks, with_cells, copy_in, copy_out, copies_to, copies_from, entry, entry_copies, exit, exit_count, exit_copies, enter, leave}
use Rattle.base.specs.Blocks.{AreApart, holder}
use Rattle.base.proofs.Blocks.{meets, holder_absent, holder_inside, Holds, holds, holder_counted, holder_none, holder_outside, holder_removed, find_no, has, counted_apart, more_apart, fewer_apart}
use Rattle.base.proofs.Sections.{first_in, same_self}
use Rattle.base.proofs.Moves.{is_absent, is_there, is_part, created_move, raised_move, entry_absent, entry_there, entry_part, ignored_move, lowered_move, exit_absent, exit_there, exit_part}
use Rattle.two_memories.proofs.MapMoves.{within_yes, within_no, entered_free, after_entry, after_exit}
use Rattle.fine_headline.proofs.Copying.{HasStorage}

pub record AreStored (m : Memories) : Type 0 where
  pub apart : AreApart m.device.blocks
  pub storage : (c : Cell) (b : Block) → holder m.device.blocks c ≡ Some b → (n : ℕ) × (m.device.cells c ≡ Some n)

-- it is said of the device alone
pub stored_on : (m n : Memories) → n.device ≡ m.device → AreStored m → AreStored n
stored_on m n e h = record {
  apart = subst (λ (d : Device). AreApart d.blocks) (sym e) h.apart;
  storage =
      subst
      (λ (d : Device). (c : Cell) (b : Block) → holder d.blocks c ≡ Some b → (k : ℕ) × (d.cells c ≡ Some k))
      (sym e) h.storage;
}

-- a section that lies in a block has storage
pub stored_inside : (m : Memories) (s : Section) → AreStored m → (b : Block) → presence m.device.blocks s ≡ Inside b →
    HasStorage s m
stored_inside m s h b e c i = go (find (meets s) m.device.blocks) refl
  where
    go : (o : Option Block) → find (meets s) m.device.blocks ≡ o → (n : ℕ) × (m.device.cells c ≡ Some n)
    go None f = absurd (cc (sym (is_absent m.device.blocks s f) ∙ e))
    go (Some x) f = by (cases_Bool (is_inside s x.section))
      where
        by : (is_inside s x.section ≡ true) ⊎ (is_inside s x.section ≡ false) → (n : ℕ) × (m.device.cells c ≡ Some n)
        by (inl j) = h.storage c x (holder_inside m.device.blocks s x c f j i)
        by (inr j) = absurd (cc (sym (is_part m.device.blocks s x f j) ∙ e))

copied_in : (b : Bool) (s : Section) (m : Memories) → AreStored m → AreStored (when b (copy_in s) m)
copied_in false s m h = h
copied_in true s m h = record { apart = h.apart; storage = λ c x e. go c (cases_Bool (is_in c s)) (h.storage c x e) }
  where
    go : (c : Cell) → (is_in c s ≡ true) ⊎ (is_in c s ≡ false) → (n : ℕ) × (m.device.cells c ≡ Some n) →
        (n : ℕ) × ((copy_in s m).device.cells c ≡ Some n)
    go c (inl i) p = (m.host c, within_yes s (λ c. Some (m.host c)) m.device.cells c i)
    go c (inr i) p = (p.0, within_no s (λ c. Some (m.host c)) m.device.cells c i ∙ p.1)

copied_out : (b : Bool) (s : Section) (m : Memories) → AreStored m → AreStored (when b (copy_out s) m)
copied_out false s m h = h
copied_out true s m h = record { apart = h.apart; storage = h.storage }

counted_stored : (s : Section) (n : ℕ) (m : Memories) → AreStored m →
    AreStored (with_blocks (map (counted s n) m.device.blocks) m)
counted_stored s n m h =
    record {
      apart = counted_apart m.device.blocks s n h.apart;
      storage = λ c b e. go c b
          (holder m.device.blocks c) refl (holder_counted m.device.blocks s n c) e;
    }
  where
    go : (c : Cell) (b : Block) (o : Option Block) → holder m.device.blocks c ≡ o →
        holder (map (counted s n) m.device.blocks) c ≡ option_map (counted s n) (holder m.device.blocks c) →
        holder (map (counted s n) m.device.blocks) c ≡ Some b → (k : ℕ) × (m.device.cells c ≡ Some k)
    go c b None o is e = absurd (none-some b (sym (is ∙ ap (option_map (counted s n)) o) ∙ e))
    go c b (Some x) o is e = h.storage c x o

created_stored : (fill : Fill) (s : Section) (m : Memories) → 1 ≤ s.length → find (meets s) m.device.blocks ≡ None →
    AreStored m →
    AreStored (with_cells (λ c. Some (fill c)) s
    (with_blocks (m.device.blocks ++ record { section = s; count = 1 } ∷ []) m))
created_stored fill s m size none h = record {
  apart = more_apart m.device.blocks new h.apart size (λ c i. holder_absent m.device.blocks s c none i);
  storage = λ c b e. go c (cases_Bool (is_in c s)) (λ i. outside c b i e);
}
  where
    new : Block
    new = record { section = s; count = 1 }

    outside : (c : Cell) (b : Block) → is_in c s ≡ false →
        holder (m.device.blocks ++ record { section = s; count = 1 } ∷ []) c ≡ Some b →
        (n : ℕ) × (m.device.cells c ≡ Some n)
    outside c b i e = by (holder m.device.blocks c) refl
      where
        by : (o : Option Block) → holder m.device.blocks c ≡ o → (n : ℕ) × (m.device.cells c ≡ Some n)
        by None o = absurd (none-some b (sym (holder_none m.device.blocks new c o ∙ find_no (has c) new [] i) ∙ e))
        by (Some x) o = h.storage c x o

    go : (c : Cell) → (is_in c s ≡ true) ⊎ (is_in c s ≡ false) →
        (is_in c s ≡ false → (n : ℕ) × (m.device.cells c ≡ Some n)) →
        (n : ℕ) × ((with_cells (λ c. Some (fill c)) s
        (with_blocks (m.device.blocks ++ record { section = s; count = 1 } ∷ []) m)).device.cells c ≡ Some n)
    go c (inl i) out = (fill c, within_yes s (λ c. Some (fill c)) m.device.cells c i)
    go c (inr i) out = let p = out i in (p.0, within_no s (λ c. Some (fill c)) m.device.cells c i ∙ p.1)

removed_stored : (b : Block) (first : Cell) (m : Memories) → holder m.device.blocks first ≡ Some b → AreStored m →
    AreStored (with_blocks (without m.device.blocks b.section) (with_cells (λ c. None) b.section m))
removed_stored b first m held h = record {
  apart = fewer_apart m.device.blocks b.section h.apart;
  storage = λ c x e. go c x (cases_Bool (is_in c b.section)) e;
}
  where
    there : Holds m.device.blocks first b
    there = holds m.device.blocks first b h.apart held

    go : (c : Cell) (x : Block) → (is_in c b.section ≡ true) ⊎ (is_in c b.section ≡ false) →
        holder (without m.device.blocks b.section) c ≡ Some x →
        (n : ℕ) × ((with_blocks (without m.device.blocks b.section) (with_cells (λ c. None) b.section m)).device.cells
        c ≡ Some n)
    go c x (inl i) e =
        absurd (none-some x (sym (holder_removed m.device.blocks b.section c b h.apart (there.whole c i)
        (same_self b.section)) ∙ e))
    go c x (inr i) e =
        let p = h.storage c x (sym (holder_outside m.device.blocks b.section c i) ∙ e) in
        (p.0, within_no b.section (λ c. None) m.device.cells c i ∙ p.1)

abbrev first_of : Section → Cell
first_of s = record { array = s.array; index = s.first }

-- an entry that is done
pub enter_stored : (fill : Fill) (item : MapItem) (m n : Memories) → 1 ≤ item.section.length → AreStored m →
    enter fill item m ≡ Some n → AreStored n
enter_stored fill item m n size h done = go (find (meets item.section) m.device.blocks) refl
  where
    is_after : (move : Move) → entry item m.device.blocks ≡ Some move → after_entry fill item move m ≡ n
    is_after move e =
        same_Some (after_entry fill item move m) n
        (sym (ap (option_map (λ move. after_entry fill item move m)) e) ∙ done)

    go : (o : Option Block) → find (meets item.section) m.device.blocks ≡ o → AreStored n
    go None f =
        subst AreStored (is_after (created_move item m.device.blocks)
        (entry_absent item m.device.blocks (is_absent m.device.blocks item.section f)
        (entered_free fill item m n (is_absent m.device.blocks item.section f) done)))
        (copied_in (entry_copies item 1) item.section _ (created_stored fill item.section m size f h))
    go (Some b) f = by (cases_Bool (is_inside item.section b.section))
      where
        by : (is_inside item.section b.section ≡ true) ⊎ (is_inside item.section b.section ≡ false) → AreStored n
        by (inl j) =
            subst AreStored (is_after (raised_move item b m.device.blocks)
            (entry_there item m.device.blocks b (is_there m.device.blocks item.section b f j)))
            (copied_in (entry_copies item (b.count + 1)) item.section _ (counted_stored b.section (b.count + 1) m h))
        by (inr j) =
            absurd (none-some n (sym (ap (option_map (λ move. after_entry fill item move m))
            (entry_part item m.device.blocks (is_part m.device.blocks item.section b f j))) ∙ done))

-- an exit that is done
pub leave_stored : (item : MapItem) (m n : Memories) → 1 ≤ item.section.length → AreStored m → leave item m ≡ Some n →
    AreStored n
leave_stored item m n size h done = go (find (meets item.section) m.device.blocks) refl
  where
    is_after : (move : Move) → exit item m.device.blocks ≡ Some move → after_exit item move m ≡ n
    is_after move e =
        same_Some (after_exit item move m) n (sym (ap (option_map (λ move. after_exit item move m)) e) ∙ done)

    lowers : (b : Block) → find (meets item.section) m.device.blocks ≡ Some b →
        is_inside item.section b.section ≡ true → (c z : Bool) (k : ℕ) →
        AreStored (with_blocks (if z then without m.device.blocks b.section else map
        (counted b.section k) m.device.blocks) (when z (with_cells (λ c. None) b.section)
        (when c (copy_out item.section) m)))
    lowers b f j true true k =
        removed_stored b (first_of item.section) (copy_out item.section m)
        (holder_inside m.device.blocks item.section b (first_of item.section) f j (first_in item.section size))
        (copied_out true item.section m h)
    lowers b f j false true k =
        removed_stored b (first_of item.section) m
        (holder_inside m.device.blocks item.section b (first_of item.section) f j (first_in item.section size)) h
    lowers b f j true false k = counted_stored b.section k (copy_out item.section m) (copied_out true item.section m h)
    lowers b f j false false k = counted_stored b.section k m h

    go : (o : Option Block) → find (meets item.section) m.device.blocks ≡ o → AreStored n
    go None f =
        subst AreStored (is_after (ignored_move item m.device.blocks)
        (exit_absent item m.device.blocks (is_absent m.device.blocks item.section f)))
        (record { apart = h.apart; storage = h.storage })
    go (Some b) f = by (cases_Bool (is_inside item.section b.section))
      where
        by : (is_inside item.section b.section ≡ true) ⊎ (is_inside item.section b.section ≡ false) → AreStored n
        by (inl j) =
            subst AreStored (is_after (lowered_move item b m.device.blocks)
            (exit_there item m.device.blocks b (is_there m.device.blocks item.section b f j)))
            (lowers b f j (exit_copies item (exit_count item.kind b.count)) (exit_count item.kind b.count == 0)
            (exit_count item.kind b.count))
        by (inr j) =
            absurd (none-some n (sym (ap (option_map (λ move. after_exit item move m))
            (exit_part item m.device.blocks (is_part m.device.blocks item.section b f j))) ∙ done))

-- an update of a section that lies in a block
pub update_stored : (item : MapItem) (m : Memories) → AreStored m →
    AreStored (when (copies_from item.kind) (copy_out item.section)
    (when (copies_to item.kind) (copy_in item.section) m))
update_stored item m h =
    copied_out (copies_from item.kind) item.section (when (copies_to item.kind) (copy_in item.section) m)
    (copied_in (copies_to item.kind) item.section m h)

-- a kernel's stores
pub kernel_stored : (stores : Stores) (m : Memories) → AreStored m →
    AreStored (record m { device = record (m.device) { cells = seen m.device.cells stores } })
kernel_stored stores m h =
    record {
      apart = h.apart;
      storage = λ c b e. let p = h.storage c b e in
          (unwrap_or (last_stored stores c) p.0, ap (option_map (λ old. unwrap_or (last_stored stores c) old)) p.1);
    }
