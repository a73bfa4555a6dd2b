-- A section that lies in one block has the numbers of a part of it.
use Rattle.std.proofs.Common.{◌≡◌, ℕ, ◌+◌, ◌-◌, ◌<◌, true, false, Bool, List, length, get_or, Option, Some, refl, sym, ap, ◌∙◌, arith}
use Rattle.std.specs.Prelude.{nat_lt, option_and_then, option_map, replicate, slice_get, slice_range, unwrap_or}
use Rattle.std.proofs.lemmas.Bool.{ltb-true, ltb-false}
use Rattle.std.proofs.lemmas.List.{length-replicate}
use Rattle.std.proofs.lemmas.Option.{slice_get-get_or, slice_get_past, slice_get_within}
use Rattle.base.specs.declared.item.Section.{Section}
use Rattle.base.specs.Memory.{is_in, is_inside}
use Rattle.base.proofs.Sections.{in_from, inside_in, inside_parts}
use Rattle.shared_row.specs.Rows.{numbers_of}
use Rattle.present.specs.declared.block.Block.{Block}
use Rattle.present.specs.Blocks.{are_stored, number_in}
use Rattle.present.specs.Found.{IsInsideAt}
use Rattle.present.specs.Rows.{AreRead, cell_at, numbers_at}
use Rattle.present.proofs.BlockReads.{read_block}
use Rattle.present.proofs.Copies.{offset_fits, part_at, part_length}
use Rattle.present.proofs.Entries.{get_replicate}
use Rattle.present.proofs.Founds.{at_block, one_block}
use Rattle.present.proofs.Orders.{Stored, stored_each}

module _ (bs : List Block) (ok : are_stored bs ≡ true) (n : ℕ) (b : Block) (at : slice_get bs n ≡ Some b)
    (s : Section) (inside : is_inside s b.section ≡ true) where
  stored : Stored b
  stored = stored_each bs ok n b at

  abbrev read : List ℕ
  read = slice_range (numbers_of b.values) (s.first - b.section.first) (s.first - b.section.first + s.length)

  pub read_length : length read ≡ s.length
  read_length =
      part_length (numbers_of b.values) (s.first - b.section.first) s.length (offset_fits b s stored inside)

  number_there : (k : ℕ) → k < s.length → (o : Option ℕ) → slice_get read k ≡ o →
      numbers_at bs (cell_at s.array (s.first + k)) ≡ o
  number_there k l o e =
      let i : is_in (cell_at s.array (s.first + k)) s ≡ true = in_from (cell_at s.array (s.first + k)) s
      (record { array = refl; above = omega arith; below = omega arith }) in
      let h = inside_in (cell_at s.array (s.first + k)) s b.section inside i in
      let first = (inside_parts s b.section inside).first in
      let place : s.first - b.section.first + k ≡ s.first + k - b.section.first = omega arith in
      ap (option_and_then (number_in (cell_at s.array (s.first + k)))) (at_block bs ok (cell_at s.array (s.first + k)) n b at h)
      ∙ sym (ap (slice_get (numbers_of b.values)) place)
      ∙ sym (part_at (numbers_of b.values) (s.first - b.section.first) (s.first - b.section.first + s.length) k (omega arith))
      ∙ e

  pub part_is_read : AreRead (numbers_at bs) s read
  part_is_read k = go (nat_lt k s.length) refl
    where
      go : (t : Bool) → nat_lt k s.length ≡ t →
          slice_get read k
          ≡ option_map (λ m. unwrap_or (numbers_at bs (cell_at s.array (s.first + k))) m) (slice_get (replicate s.length 0) k)
      go true e =
          let l = ltb-true k s.length e in
          let r = read_length in
          let is = slice_get-get_or read k 0 (omega arith) in
          is
          ∙ sym (ap (λ o. Some (unwrap_or o 0)) (number_there k l _ is))
          ∙ sym (ap (option_map (λ m. unwrap_or (numbers_at bs (cell_at s.array (s.first + k))) m)) (get_replicate s.length k 0 l))
      go false e =
          let l = ltb-false k s.length e in
          let r = read_length in
          let z : length {A = ℕ} (replicate s.length 0) ≡ s.length = length-replicate s.length 0 in
          slice_get_past read k (omega arith)
          ∙ sym (ap (option_map (λ m. unwrap_or (numbers_at bs (cell_at s.array (s.first + k))) m))
          (slice_get_past (replicate s.length 0) k (omega (arith, l, z))))

-- the block that was found
pub inside_read : (bs : List Block) (s : Section) (n : ℕ) (b : Block) → IsInsideAt bs s n → b ≡ get_or bs n b →
    (slice_get bs n ≡ Some b) × (is_inside s b.section ≡ true)
inside_read bs s n b h e =
    let at = read_block bs n b (slice_get_within bs n h.block h.is) e in
    let same = one_block (slice_get bs n) h.block b h.is at in
    (at, ap (λ (x : Block). is_inside s x.section) (sym same) ∙ h.inside)
