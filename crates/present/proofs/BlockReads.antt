-- Reading and changing a block at its place.
use Rattle.std.proofs.Common.{◌≡◌, ℕ, ◌-◌, ◌<◌, true, List, length, get_or, Some, None, sym, ◌∙◌, ap, arith}
use Rattle.std.specs.Prelude.{slice_get, slice_set, insert, remove}
use Rattle.std.proofs.lemmas.Option.{slice_get_read, slice_get_within}
use Rattle.base.specs.declared.item.Cell.{Cell}
use Rattle.base.specs.declared.item.Section.{Section}
use Rattle.base.specs.Memory.{is_in, within}
use Rattle.shared_row.specs.Rows.{numbers_of}
use Rattle.present.specs.declared.block.Block.{Block}
use Rattle.present.specs.Blocks.{IsSection, are_stored, stored_at, has}
use Rattle.present.specs.Found.{IsAbsentAt, IsBlockAt}
use Rattle.base.proofs.Sections.{in_parts}
use Rattle.present.proofs.Finds.{find_insert_new, find_insert_old, find_set_new, find_set_old, find_remove_new, find_remove_old}
use Rattle.present.proofs.Orders.{Stored}
use Rattle.present.proofs.Founds.{one_block, others_lack, at_block, absent_none}
use Rattle.present.proofs.Shown.{by_section}

-- what a read at a place gives
pub read_block : (bs : List Block) (i : ℕ) (x : Block) → i < length bs → x ≡ get_or bs i x → slice_get bs i ≡ Some x
read_block bs i x l e = slice_get_read bs (length bs) i x (λ _. length bs) l e

pub found_within : (bs : List Block) (c : Cell) (i : ℕ) → IsBlockAt bs c i → i < length bs
found_within bs c i w = slice_get_within bs i w.block w.is

pub found_read : (bs : List Block) → are_stored bs ≡ true → (c : Cell) (i : ℕ) (x : Block) → IsBlockAt bs c i →
    x ≡ get_or bs i x → stored_at bs c ≡ Some x
found_read bs ok c i x w e =
    let r = read_block bs i x (found_within bs c i w) e in
    let is : w.block ≡ x = one_block (slice_get bs i) w.block x w.is r in
    at_block bs ok c i w.block w.is w.has ∙ ap Some is

pub found_has : (bs : List Block) (c : Cell) (i : ℕ) (x : Block) → IsBlockAt bs c i → x ≡ get_or bs i x →
    is_in c x.section ≡ true
found_has bs c i x w e =
    let r = read_block bs i x (found_within bs c i w) e in
    let is : w.block ≡ x = one_block (slice_get bs i) w.block x w.is r in
    ap (has c) (sym is) ∙ w.has

-- the number of a cell in its block is there
pub number_within : (b : Block) (c : Cell) → Stored b → is_in c b.section ≡ true →
    c.index - b.section.first < length (numbers_of b.values)
number_within b c w h =
    let p = in_parts c b.section h in
    let above = p.above in
    let below = p.below in
    let numbers = w.numbers in
    omega arith

-- What stands at each cell after a change.

pub change_insert : (bs : List Block) → are_stored bs ≡ true → (s : Section) (n : ℕ) (y : Block) → IsSection s →
    IsAbsentAt bs s n → y.section ≡ s →
    (c : Cell) → stored_at (insert bs n y) c ≡ within y.section (λ x. Some y) (stored_at bs) c
change_insert bs ok s n y w h e =
    by_section y.section (λ x. Some y) (stored_at bs) (stored_at (insert bs n y))
    (λ c i. find_insert_new (has c) bs n y (absent_none bs ok s n w h c (ap (is_in c) (sym e) ∙ i)) i)
    (λ c i. find_insert_old (has c) bs n y i)

pub change_set : (bs : List Block) → are_stored bs ≡ true → (n : ℕ) (x y : Block) → slice_get bs n ≡ Some x →
    y.section ≡ x.section → (c : Cell) →
    stored_at (slice_set bs n y) c ≡ within x.section (λ z. Some y) (stored_at bs) c
change_set bs ok n x y e s =
    by_section x.section (λ z. Some y) (stored_at bs) (stored_at (slice_set bs n y))
    (λ c i. find_set_new (has c) bs n y (slice_get_within bs n x e)
    (λ k z l f. others_lack bs ok c n x e i k z (λ j. omega arith) f) (ap (is_in c) s ∙ i))
    (λ c i. find_set_old (has c) bs n x y e i (ap (is_in c) s ∙ i))

pub change_remove : (bs : List Block) → are_stored bs ≡ true → (n : ℕ) (x : Block) → slice_get bs n ≡ Some x →
    (c : Cell) → stored_at (remove bs n) c ≡ within x.section (λ z. None) (stored_at bs) c
change_remove bs ok n x e =
    by_section x.section (λ z. None) (stored_at bs) (stored_at (remove bs n))
    (λ c i. find_remove_new (has c) bs n (λ k z l f. others_lack bs ok c n x e i k z l f))
    (λ c i. find_remove_old (has c) bs n x e i)
