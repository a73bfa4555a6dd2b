-- What the count of an entry shows.
use Rattle.std.proofs.Common.{◌≡◌, ℕ, zero, suc, ◌+◌, ◌-◌, ◌<◌, ◌≤◌, Bool, true, false, List, [], ◌∷◌, ◌++◌, map, length, replicate, Option, Some, None, refl, sym, ◌∙◌, ap, subst, arith}
use Rattle.std.specs.Prelude.{slice_get, slice_set, insert, option_map}
use Rattle.std.proofs.lemmas.Option.{slice_get_within}
use Rattle.base.specs.declared.item.Cell.{Cell}
use Rattle.base.specs.declared.item.Section.{Section}
use Rattle.base.specs.declared.item.MapItem.{MapItem}
use Rattle.base.specs.Memory.{is_in, is_inside, within}
use Rattle.base.specs.Map.{Block as Present, Device, Absent, Inside, InPart, presence, counted, entry, created, need}
use Rattle.base.proofs.Places.{get_set_same}
use Rattle.present.specs.declared.Table.{Table}
use Rattle.present.specs.declared.block.Block.{Block}
use Rattle.present.specs.Blocks.{IsSection, Show, present, number_in, stored_at, cells_in}
use Rattle.present.specs.Found.{IsAbsentAt, IsInsideAt, IsInPart}
use Rattle.present.specs.Change.{IsRefused, Partly, Missing, Opens, Raises, blocks_of, with_count}
use Rattle.present.specs.Table.{Shows, count_at, first_cell, fill_of, with_created}
use Rattle.base.proofs.Sections.{in_parts, inside_in, inside_self, first_in}
use Rattle.present.proofs.Orders.{cells_insert, cells_set}
use Rattle.present.proofs.Founds.{at_block, absent_none}
use Rattle.present.proofs.Shown.{presence_absent, presence_inside, presence_part, shows_created, shows_counted}
use Rattle.base.proofs.Moves.{created_move, raised_move, entry_absent, entry_missing, entry_there, entry_part}
use Rattle.present.proofs.BlockReads.{change_insert, change_set}

pub get_replicate : (n i v : ℕ) → i < n → slice_get (replicate n v) i ≡ Some v
get_replicate zero i v h = absurd (omega arith)
get_replicate (suc n) zero v h = refl
get_replicate (suc n) (suc i) v h = get_replicate n i v (omega arith)

pub get_insert : {A : Type 0} (xs : List A) (n : ℕ) (y : A) → n ≤ length xs → slice_get (insert xs n y) n ≡ Some y
get_insert xs zero y h = refl
get_insert [] (suc n) y h = absurd (omega arith)
get_insert (x ∷ xs) (suc n) y h = get_insert xs n y (omega arith)

-- where a section lies

module _ (t : Table) (s : Section) (w : IsSection s) where
  pub is_absent_at : (n : ℕ) → IsAbsentAt (blocks_of t) s n → (d : Device) → Shows t d → presence d.blocks s ≡ Absent
  is_absent_at n h d sh = presence_absent (blocks_of t) t.used d sh s w.has_cells (absent_none
      (blocks_of t) t.stored s n w h)

  pub is_inside_at : (n : ℕ) (b : Block) → slice_get (blocks_of t) n ≡ Some b → is_inside s b.section ≡ true →
      (d : Device) → Shows t d → presence d.blocks s ≡ Inside (present b)
  is_inside_at n b e i d sh =
      presence_inside (blocks_of t) t.used d sh s b w.has_cells i (λ c k. at_block (blocks_of t) t.stored c n b e k)

  pub is_in_part : IsInPart (blocks_of t) s → (d : Device) → Shows t d → presence d.blocks s ≡ InPart
  is_in_part h d sh =
      presence_part (blocks_of t) t.used d sh s h.block h.cell
      (at_block (blocks_of t) t.stored h.cell h.place h.block h.is h.in_block) h.in_section h.outside

-- An entry that creates its block.
module _ (old new : Table) (item : MapItem) (n : ℕ) (copied : Bool) (w : IsSection item.section)
    (h : Opens old new item n copied) (d : Device) (sh : Shows old d) where
  pub opens_entry : entry item d.blocks ≡ Some (created_move item d.blocks)
  opens_entry = entry_absent item d.blocks (is_absent_at old item.section w n h.absent d sh) h.without_present

  pub opens_used : new.used ≡ old.used + item.section.length
  opens_used =
      let more = cells_insert (blocks_of old) n h.creates.block in
      let long : h.creates.block.section.length ≡ item.section.length = ap (λ
      (s : Section). s.length) h.creates.section in
      new.counted ∙ ap cells_in h.creates.blocks ∙ omega (arith, more, long, old.counted)

  opens_filled : (c : Cell) → is_in c h.creates.block.section ≡ true → number_in c h.creates.block ≡ Some old.fresh
  opens_filled c i =
      let p = in_parts c h.creates.block.section i in
      let above = p.above in
      let below = p.below in
      let long : h.creates.block.section.length ≡ item.section.length = ap (λ
      (s : Section). s.length) h.creates.section in
      ap (λ xs. slice_get xs (c.index - h.creates.block.section.first)) h.creates.values
      ∙ get_replicate item.section.length (c.index - h.creates.block.section.first) old.fresh (omega arith)

  pub opens_shown : Shows new (with_created (fill_of old) (created_move item d.blocks) d)
  opens_shown =
      let b = h.creates.block in
      let none : (c : Cell) → is_in c b.section ≡ true → stored_at (blocks_of old) c ≡ None =
      λ c i. absent_none (blocks_of old) old.stored item.section n w h.absent c (ap (is_in c)
      (sym h.creates.section) ∙ i) in
      let some = subst (λ (s : Section). 1 ≤ s.length) (sym h.creates.section) w.has_cells in
      let first = shows_created (blocks_of old) (insert (blocks_of old) n b) old.used d sh b
      (λ c. Some old.fresh) some none
      (change_insert (blocks_of old) old.stored item.section n b w h.absent h.creates.section) opens_filled in
      let second = subst (λ xs. Show xs (old.used + b.section.length)
      (record { blocks = d.blocks ++ present b ∷ []; cells = within b.section (λ c. Some old.fresh) d.cells }))
      (sym h.creates.blocks) first in
      let third = subst (λ (s : Section). Show (blocks_of new) (old.used + s.length) (record {
        blocks = d.blocks ++ record { section = s; count = b.count } ∷ [];
        cells = within s (λ c. Some old.fresh) d.cells;
      })) h.creates.section second in
      let fourth = subst (λ (m : ℕ). Show (blocks_of new) (old.used + item.section.length) (record {
        blocks = d.blocks ++ record { section = item.section; count = m } ∷ [];
        cells = within item.section (λ c. Some old.fresh) d.cells;
      })) h.creates.count third in
      subst (λ (m : ℕ). Show (blocks_of new) m (record {
        blocks = d.blocks ++ record { section = item.section; count = 1 } ∷ [];
        cells = within item.section (λ c. Some old.fresh) d.cells;
      })) (sym opens_used) fourth

pub opens_inside : (old new : Table) (item : MapItem) (n : ℕ) (copied : Bool) → Opens old new item n copied →
    IsInsideAt (blocks_of new) item.section n
opens_inside old new item n copied h = record {
  block = h.creates.block;
  is = ap (λ xs. slice_get xs n) h.creates.blocks ∙ get_insert (blocks_of old) n h.creates.block h.absent.bound;
  inside = ap (λ s. is_inside item.section s) h.creates.section ∙ inside_self item.section;
}

-- A block gets another count.
module _ (old new : Table) (n m : ℕ) (b : Block) (e : slice_get (blocks_of old) n ≡ Some b)
    (change : blocks_of new ≡ slice_set (blocks_of old) n (with_count b m)) (d : Device) (sh : Shows old d) where
  pub recount_used : new.used ≡ old.used
  recount_used =
      new.counted ∙ ap cells_in change ∙ cells_set (blocks_of old) n b (with_count b m) e refl ∙ sym old.counted

  pub recount_shown : Shows new (record { blocks = map (counted b.section m) d.blocks; cells = d.cells })
  recount_shown =
      let first = shows_counted (blocks_of old) (slice_set (blocks_of old) n (with_count b m)) old.used d sh b
      (with_count b m)
      refl (λ c i. at_block (blocks_of old) old.stored c n b e i)
      (change_set (blocks_of old) old.stored n b (with_count b m) e refl) (λ c. refl) in
      let second = subst (λ xs. Show xs old.used (record {
        blocks = map
            (counted b.section m) d.blocks;
        cells = d.cells;
      }))
      (sym change) first in
      subst (λ (u : ℕ). Show (blocks_of new) u (record {
        blocks = map
            (counted b.section m) d.blocks;
        cells = d.cells;
      }))
      (sym recount_used) second

-- An entry that counts its block.
module _ (old new : Table) (item : MapItem) (n : ℕ) (copied : Bool) (w : IsSection item.section)
    (h : Raises old new item n copied) (d : Device) (sh : Shows old d) where
  pub raises_entry : entry item d.blocks ≡ Some (raised_move item (present h.before) d.blocks)
  raises_entry = entry_there item d.blocks (present h.before)
      (is_inside_at old item.section w n h.before h.is h.inside d sh)

  pub raises_shown : Shows new (with_created (fill_of old) (raised_move item (present h.before) d.blocks) d)
  raises_shown = recount_shown old new n (h.before.count + 1) h.before h.is h.blocks d sh

pub raises_inside : (old new : Table) (item : MapItem) (n : ℕ) (copied : Bool) → Raises old new item n copied →
    IsInsideAt (blocks_of new) item.section n
raises_inside old new item n copied h = record {
  block = with_count h.before (h.before.count + 1);
  is = ap (λ xs. slice_get xs n) h.blocks
      ∙ get_set_same (blocks_of old) n (with_count h.before (h.before.count + 1)) (slice_get_within
      (blocks_of old) n h.before h.is);
  inside = h.inside;
}

-- the count that the entry's condition speaks of
pub count_here : (t : Table) (s : Section) (n : ℕ) (b : Block) → IsSection s → slice_get (blocks_of t) n ≡ Some b →
    is_inside s b.section ≡ true → count_at t (first_cell s) ≡ b.count
count_here t s n b w e i =
    ap (λ (o : Option Block). elim (option_map present o) [ None ↦ 0 | Some x ↦ x.count ])
    (at_block (blocks_of t) t.stored (first_cell s) n b e (inside_in (first_cell s) s b.section i
    (first_in s w.has_cells)))

-- an entry that may not be done
pub refused_entry : (t : Table) (item : MapItem) → IsSection item.section → IsRefused t item →
    (d : Device) → Shows t d → entry item d.blocks ≡ None
refused_entry t item w (Partly h) d sh = entry_part item d.blocks (is_in_part t item.section w h d sh)
refused_entry t item w (Missing h) d sh =
    entry_missing item d.blocks (is_absent_at t item.section w h.at h.absent d sh) h.with_present

-- How many cells an entry needs.

need_one : (item : MapItem) (blocks : List Present) → need (item ∷ []) blocks ≡ created (entry item blocks)
need_one item blocks = omega arith

pub need_absent : (item : MapItem) (blocks : List Present) → presence blocks item.section ≡ Absent →
    item.present ≡ false → need (item ∷ []) blocks ≡ item.section.length
need_absent item blocks e p = need_one item blocks ∙ ap created (entry_absent item blocks e p)

pub need_inside : (item : MapItem) (blocks : List Present) (b : Present) → presence blocks item.section ≡ Inside b →
    need (item ∷ []) blocks ≡ 0
need_inside item blocks b e = need_one item blocks ∙ ap created (entry_there item blocks b e)

pub need_none : (item : MapItem) (blocks : List Present) → entry item blocks ≡ None → need (item ∷ []) blocks ≡ 0
need_none item blocks e = need_one item blocks ∙ ap created e
