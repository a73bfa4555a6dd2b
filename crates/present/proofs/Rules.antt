-- The rules of entries, exits and updates, by where the section lies.
use Rattle.std.proofs.Common.{◌≡◌, ℕ, ◌+◌, Bool, true, false, ◌==◌, [], ◌∷◌, map, Option, Some, None, refl, sym, ◌∙◌, ap, subst, arith}
use Rattle.std.specs.Prelude.{IsSomeAnd, option_map, if◌then◌else◌, slice_get, slice_set, remove}
use Rattle.base.specs.declared.item.Section.{Section}
use Rattle.base.specs.declared.item.MapItem.{MapItem}
use Rattle.base.specs.declared.fault.RunFault.{RunFault}
use Rattle.base.specs.declared.fault.RunFault.TheVariants as fault
use Rattle.host_memory.specs.declared.memory.Memory.{Memory as Arrays}
use Rattle.base.specs.Memory.{is_inside, within}
use Rattle.host_memory.specs.Arrays.{memory_of}
use Rattle.base.specs.Map.{Block as Present, Device, Fill, Memories, Move, Absent, Inside, InPart, presence, counted, without, entry, enter, leave, update, exit_count, exit_copies, copy_in, copy_out, when, with_blocks, with_cells}
use Rattle.present.specs.declared.Table.{Table}
use Rattle.present.specs.declared.block.Block.{Block}
use Rattle.present.specs.Blocks.{IsSection, Show, present, cells_in}
use Rattle.present.specs.Change.{IsCountedAt, IsCountFault, IsRefused, blocks_of, with_count}
use Rattle.present.specs.Found.{IsInsideAt}
use Rattle.present.specs.Table.{Shows, Are, HasRoom, IsEntryFault, Fails, fill_of, counted_in, counted_out, with_created, with_host, memories, host_after, item_to, item_from, removed}
use Rattle.present.proofs.Orders.{stored_each, cells_remove}
use Rattle.present.proofs.Founds.{at_block}
use Rattle.present.proofs.Shown.{shows_removed}
use Rattle.present.proofs.BlockReads.{change_remove}
use Rattle.base.proofs.Moves.{exit_part, exit_absent, exit_there}
use Rattle.present.proofs.Entries.{is_absent_at, is_inside_at, opens_entry, opens_shown, opens_inside, raises_entry, raises_shown, raises_inside, recount_shown, need_absent, need_inside, need_none, refused_entry}

-- Entries.

-- the entry of a device that the old table showed, which the new one shows after its creation and count
pub record Done (old new : Table) (item : MapItem) (copied : Bool) (d : Device) : Type 0 where
  pub move : Move
  pub is : entry item d.blocks ≡ Some move
  pub copies : move.copies ≡ copied
  pub shown : Shows new (with_created (fill_of old) move d)

module _ (old new : Table) (item : MapItem) (n : ℕ) (copied : Bool) (w : IsSection item.section) where
  pub done : (creates : Bool) → IsCountedAt old new item n copied creates →
      (d : Device) → Shows old d → Done old new item copied d
  done true h d sh = record {
    move = _;
    is = opens_entry old new item n copied w h d sh;
    copies = sym h.copies;
    shown = opens_shown old new item n copied w h d sh;
  }
  done false h d sh = record {
    move = _;
    is = raises_entry old new item n copied w h d sh;
    copies = sym h.copies;
    shown = raises_shown old new item n copied w h d sh;
  }

  pub done_inside : (creates : Bool) →
      IsCountedAt old new item n copied creates →
      IsInsideAt (blocks_of new) item.section n
  done_inside true h = opens_inside old new item n copied h
  done_inside false h = raises_inside old new item n copied h

  pub done_room : (creates : Bool) →
      IsCountedAt old new item n copied creates →
      HasRoom old (item ∷ [])
  done_room true h d sh =
      let e = need_absent item d.blocks (is_absent_at old item.section w n h.absent d sh) h.without_present in
      let r = h.room in
      omega (arith, e, r)
  done_room false h d sh =
      let e = need_inside item d.blocks (present h.before)
      (is_inside_at old item.section w n h.before h.is h.inside d sh) in
      let r = old.room in
      omega (arith, e, r)

pub counts : (old new : Table) (item : MapItem) (copied : Bool) (d : Device) → Done old new item copied d →
    IsSomeAnd (counted_in (fill_of old) item d) (λ r. (r.0 ≡ copied) × Shows new r.1)
counts old new item copied d h =
    subst (λ (o : Option Move). IsSomeAnd {T = Bool × Device} (option_map (λ (move : Move).
    (move.copies, with_created (fill_of old) move d)) o)
    (λ (r : Bool × Device). (r.0 ≡ copied) × Shows new r.1)) (sym h.is) (h.copies, h.shown)

moved : (fill : Fill) (move : Move) (m : Memories) →
    when move.changes (with_cells (λ c. Some (fill c)) move.block) (with_blocks move.blocks m)
    ≡ record { host = m.host; device = with_created fill move m.device }
moved fill move m = go move.changes
  where
    go : (b : Bool) →
        when b (with_cells (λ c. Some (fill c)) move.block) (with_blocks move.blocks m)
        ≡ record {
          host = m.host;
          device = record {
            blocks = move.blocks;
            cells = elim b [ true ↦ within move.block (λ c. Some (fill c)) m.device.cells | false ↦ m.device.cells ];
          };
        }
    go true = refl
    go false = refl

pub enters : (fill : Fill) (item : MapItem) (move : Move) (m : Memories) → entry item m.device.blocks ≡ Some move →
    enter fill item m ≡ Some (when move.copies (copy_in item.section)
    (record { host = m.host; device = with_created fill move m.device }))
enters fill item move m e =
    ap (option_map (λ (move : Move). when move.copies (copy_in item.section)
    (when move.changes (with_cells (λ c. Some (fill c)) move.block) (with_blocks move.blocks m)))) e
    ∙ ap (λ (x : Memories). Some (when move.copies (copy_in item.section) x)) (moved fill move m)

module _ (old new : Table) (item : MapItem) (copied : Bool) (host : Arrays) (d : Device)
    (h : Done old new item copied d) where
  pub entered_plain : copied ≡ false → IsSomeAnd (enter (fill_of old) item (memories host d)) (Are host new)
  entered_plain e =
      subst (λ o. IsSomeAnd o (Are host new))
      (sym (enters (fill_of old) item h.move (memories host d) h.is
      ∙ ap (λ b. Some (when b (copy_in item.section) (record {
        host = memory_of host;
        device = with_created
            (fill_of old) h.move d;
      })))
      (h.copies ∙ e)))
      (record { host = refl; shown = h.shown })

  pub entered_copied : (after : Table) → copied ≡ true →
      ((x : Device) → Shows new x → Shows after (with_host item.section (memory_of host) x)) →
      IsSomeAnd (enter (fill_of old) item (memories host d)) (Are host after)
  entered_copied after e brought =
      subst (λ o. IsSomeAnd o (Are host after))
      (sym (enters (fill_of old) item h.move (memories host d) h.is
      ∙ ap (λ b. Some (when b (copy_in item.section) (record {
        host = memory_of host;
        device = with_created
            (fill_of old) h.move d;
      })))
      (h.copies ∙ e)))
      (record { host = refl; shown = brought _ h.shown })

pub entry_fault : (t : Table) (item : MapItem) (P : Type 0) → IsSection item.section →
    (IsRefused t item → P) →
    (f : RunFault) → IsCountFault t item f → IsEntryFault t (item ∷ []) P f
entry_fault t item P w refused fault.OutOfMemory h = tt
entry_fault t item P w refused fault.DeviceFull h =
    λ d sh. (let e = need_absent item d.blocks (is_absent_at t item.section w h.at h.absent d sh) h.without_present in
    let o = h.over in
    omega (arith, e, o))
entry_fault t item P w refused fault.Absent h = (
  (λ d sh. (let e = need_none item d.blocks (refused_entry t item w h d sh) in let r = t.room in omega
      (arith, e, r))),
  refused h,
)
entry_fault t item P w refused fault.Stranger h = h
entry_fault t item P w refused fault.ThreadNotStarted h = h
entry_fault t item P w refused fault.OtherState h = h
entry_fault t item P w refused fault.RangeRefused h = h

pub no_enter : (t : Table) (item : MapItem) (host : Arrays) → IsSection item.section → IsRefused t item →
    Fails (enter (fill_of t) item) t host
no_enter t item host w h d sh = ap (option_map _) (refused_entry t item w h d sh)

-- Updates.

pub update_to : (s : Section) (m : Memories) (b : Present) → presence m.device.blocks s ≡ Inside b →
    update (item_to s) m ≡ Some (copy_in s m)
update_to s m b e = rw (e, update) refl

pub update_from : (s : Section) (m : Memories) (b : Present) → presence m.device.blocks s ≡ Inside b →
    update (item_from s) m ≡ Some (copy_out s m)
update_from s m b e = rw (e, update) refl

-- Exits.

pub counted_absent : (item : MapItem) (d : Device) → presence d.blocks item.section ≡ Absent →
    counted_out item d ≡ Some (false, false, d)
counted_absent item d e = rw (e, counted_out) refl

pub counted_inside : (item : MapItem) (d : Device) (b : Present) → presence d.blocks item.section ≡ Inside b →
    counted_out item d ≡ Some (
      exit_copies item (exit_count item.kind b.count),
      exit_count item.kind b.count == 0,
      record { blocks = map (counted b.section (exit_count item.kind b.count)) d.blocks; cells = d.cells },
    )
counted_inside item d b e = rw (e, counted_out) refl

pub leave_absent : (item : MapItem) (m : Memories) → presence m.device.blocks item.section ≡ Absent →
    leave item m ≡ Some m
leave_absent item m e =
    ap (option_map (λ (move : Move). with_blocks move.blocks
    (when move.changes (with_cells (λ c. None) move.block) (when move.copies (copy_out item.section) m))))
    (exit_absent item m.device.blocks e)

pub leave_part : (item : MapItem) (m : Memories) → presence m.device.blocks item.section ≡ InPart →
    leave item m ≡ None
leave_part item m e = ap (option_map _) (exit_part item m.device.blocks e)

-- the memories after an exit of a block
abbrev pub left_with : Section → Present → ℕ → Bool → Bool → Memories → Memories
left_with s b n gone copies m =
    with_blocks (if gone then without m.device.blocks b.section else map (counted b.section n) m.device.blocks)
    (when gone (with_cells (λ c. None) b.section) (when copies (copy_out s) m))

pub leave_inside : (item : MapItem) (m : Memories) (b : Present) (n : ℕ) (gone copies : Bool) →
    presence m.device.blocks item.section ≡ Inside b → exit_count item.kind b.count ≡ n → (n == 0) ≡ gone →
    exit_copies item n ≡ copies → leave item m ≡ Some (left_with item.section b n gone copies m)
leave_inside item m b n gone copies e count zero copied =
    ap (option_map (λ (move : Move). with_blocks move.blocks
    (when move.changes (with_cells (λ c. None) move.block) (when move.copies (copy_out item.section) m))))
    (exit_there item m.device.blocks b e)
    ∙ ap (λ k. Some (left_with item.section b k (k == 0) (exit_copies item k) m)) count
    ∙ (λ i. Some (left_with item.section b n (zero i) (copied i) m))

-- Removals.

module _ (old new : Table) (n : ℕ) (b : Block) (e : slice_get (blocks_of old) n ≡ Some b)
    (change : blocks_of new ≡ remove (blocks_of old) n) (d : Device) (sh : Shows old d) where
  pub removed_shown : Shows new
      (record { blocks = without d.blocks b.section; cells = within b.section (λ c. None) d.cells })
  removed_shown =
      let w = stored_each (blocks_of old) old.stored n b e in
      let fewer = cells_remove (blocks_of old) n b e in
      let now = new.counted ∙ ap cells_in change in
      let used : new.used + b.section.length ≡ old.used = omega (arith, fewer, now, old.counted) in
      let first = shows_removed (blocks_of old) (remove (blocks_of old) n) old.used new.used d sh b w.has_cells
      (λ c i. at_block (blocks_of old) old.stored c n b e i) (change_remove (blocks_of old) old.stored n b e) used in
      subst (λ xs. Show xs new.used
      (record { blocks = without d.blocks b.section; cells = within b.section (λ c. None) d.cells }))
      (sym change) first

pub removed_absent : (s : Section) (d : Device) → presence d.blocks s ≡ Absent → removed s d ≡ d
removed_absent s d e = rw (e, removed) refl

pub removed_part : (s : Section) (d : Device) → presence d.blocks s ≡ InPart → removed s d ≡ d
removed_part s d e = rw (e, removed) refl

pub removed_inside : (s : Section) (d : Device) (b : Present) → presence d.blocks s ≡ Inside b →
    removed s d ≡ record { blocks = without d.blocks b.section; cells = within b.section (λ c. None) d.cells }
removed_inside s d b e = rw (e, removed) refl

left_gone : (s : Section) (b : Present) (n : ℕ) (copies : Bool) (m : Memories) →
    left_with s b n true copies m ≡ record {
      host = host_after copies s m.device m.host;
      device = record {
        blocks = without m.device.blocks b.section;
        cells = within b.section
            (λ c. None) m.device.cells;
      };
    }
left_gone s b n true m = refl
left_gone s b n false m = refl

left_kept : (s : Section) (b : Present) (n : ℕ) (copies : Bool) (m : Memories) →
    left_with s b n false copies m ≡ record {
      host = host_after copies s m.device m.host;
      device = record { blocks = map (counted b.section n) m.device.blocks; cells = m.device.cells };
    }
left_kept s b n true m = refl
left_kept s b n false m = refl

-- An exit of a block.
module _ (old new : Table) (item : MapItem) (host after : Arrays) (at n : ℕ) (copies : Bool) (b : Block)
    (w : IsSection item.section)
    (e : slice_get (blocks_of old) at ≡ Some b) (i : is_inside item.section b.section ≡ true)
    (count : n ≡ exit_count item.kind b.count) (copied : copies ≡ exit_copies item n)
    (brought : (d : Device) → Shows old d → memory_of after ≡ host_after copies item.section d (memory_of host))
    (d : Device) (sh : Shows old d) where
  pub leaves_gone : (n == 0) ≡ true → blocks_of new ≡ remove (blocks_of old) at →
      IsSomeAnd (leave item (memories host d)) (Are after new)
  leaves_gone zero change =
      subst (λ o. IsSomeAnd o (Are after new))
      (sym (leave_inside item (memories host d) (present b) n true copies
      (is_inside_at old item.section w at b e i d sh)
      (sym count) zero (sym copied)
      ∙ ap Some (left_gone item.section (present b) n copies (memories host d))))
      (record { host = sym (brought d sh); shown = removed_shown old new at b e change d sh })

  pub leaves_kept : (n == 0) ≡ false → blocks_of new ≡ slice_set (blocks_of old) at (with_count b n) →
      IsSomeAnd (leave item (memories host d)) (Are after new)
  leaves_kept zero change =
      subst (λ o. IsSomeAnd o (Are after new))
      (sym (leave_inside item (memories host d) (present b) n false copies
      (is_inside_at old item.section w at b e i d sh)
      (sym count) zero (sym copied)
      ∙ ap Some (left_kept item.section (present b) n copies (memories host d))))
      (record { host = sym (brought d sh); shown = recount_shown old new at n b e change d sh })

-- The count of an exit.
pub counts_out : (old new : Table) (item : MapItem) (at n : ℕ) (copies gone : Bool) (b : Block) →
    IsSection item.section →
    slice_get (blocks_of old) at ≡ Some b → is_inside item.section b.section ≡ true →
    n ≡ exit_count item.kind b.count → copies ≡ exit_copies item n → gone ≡ (n == 0) →
    blocks_of new ≡ slice_set (blocks_of old) at (with_count b n) → (d : Device) → Shows old d →
    IsSomeAnd (counted_out item d) (λ r. (r.0 ≡ copies) × (r.1 ≡ gone) × Shows new r.2)
counts_out old new item at n copies gone b w e i count copied zero change d sh =
    subst (λ (o : Option (Bool × Bool × Device)). IsSomeAnd o (λ r. (r.0 ≡ copies) × (r.1 ≡ gone) × Shows new r.2))
    (sym (counted_inside item d (present b) (is_inside_at old item.section w at b e i d sh)
    ∙ ap (λ k. Some (
      exit_copies item k,
      k == 0,
      record {
        blocks = map
            (counted b.section k) d.blocks;
        cells = d.cells;
      },
    )) (sym count)))
    (sym copied, sym zero, recount_shown old new at n b e change d sh)

pub counts_out_absent : (t : Table) (item : MapItem) (d : Device) → presence d.blocks item.section ≡ Absent →
    Shows t d →
    IsSomeAnd (counted_out item d) (λ r. (r.0 ≡ false) × (r.1 ≡ false) × Shows t r.2)
counts_out_absent t item d e sh =
    subst (λ (o : Option (Bool × Bool × Device)). IsSomeAnd o (λ r. (r.0 ≡ false) × (r.1 ≡ false) × Shows t r.2))
    (sym (counted_absent item d e)) (refl, refl, sh)
