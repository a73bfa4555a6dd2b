-- A block whose numbers have other owners.
use Rattle.std.proofs.Common.{◌≡◌, ◌⊎◌, ℕ, ◌-◌, true, false, ◌==◌, List, length, Some, sym, ap, ◌∙◌, inl, inr}
use Rattle.std.specs.Prelude.{◌&&◌, nat_le, option_and_then, option_map, slice_get, slice_set}
use Rattle.std.proofs.lemmas.Bool.{cases_Bool}
use Rattle.base.specs.declared.item.Cell.{Cell}
use Rattle.base.specs.Memory.{end_of, is_in}
use Rattle.present.specs.declared.block.Block.{Block}
use Rattle.present.specs.Blocks.{are_stored, is_stored, number_in, present, stored_at}
use Rattle.present.specs.Rows.{HasSameNumbers, numbers_at}
use Rattle.present.proofs.BlockReads.{change_set}
use Rattle.present.proofs.Founds.{at_block}
use Rattle.present.proofs.Shown.{within_in, within_out}

pub is_stored_same : (x y : Block) → HasSameNumbers x y → is_stored x ≡ true → is_stored y ≡ true
is_stored_same x y h s =
    (λ i. nat_le 1 (h.section i).length
    && (nat_le (end_of (h.section i)) 65536 && (length (h.numbers i) == (h.section i).length)))
    ∙ s

module _ (bs : List Block) (ok : are_stored bs ≡ true) (n : ℕ) (x y : Block) (e : slice_get bs n ≡ Some x)
    (h : HasSameNumbers x y) (c : Cell) where
  here : is_in c x.section ≡ true → stored_at (slice_set bs n y) c ≡ Some y
  here i = change_set bs ok n x y e h.section c ∙ within_in x.section (λ z. Some y) (stored_at bs) c i

  there : is_in c x.section ≡ false → stored_at (slice_set bs n y) c ≡ stored_at bs c
  there i = change_set bs ok n x y e h.section c ∙ within_out x.section (λ z. Some y) (stored_at bs) c i

  pub same_block_at : option_map present (stored_at (slice_set bs n y) c) ≡ option_map present (stored_at bs c)
  same_block_at = go (cases_Bool (is_in c x.section))
    where
      go : (is_in c x.section ≡ true) ⊎ (is_in c x.section ≡ false) →
          option_map present (stored_at (slice_set bs n y) c) ≡ option_map present (stored_at bs c)
      go (inl i) =
          ap (option_map present) (here i)
          ∙ (λ j. Some (record { section = h.section j; count = h.count j }))
          ∙ sym (ap (option_map present) (at_block bs ok c n x e i))
      go (inr i) = ap (option_map present) (there i)

  pub same_number_at : numbers_at (slice_set bs n y) c ≡ numbers_at bs c
  same_number_at = go (cases_Bool (is_in c x.section))
    where
      go : (is_in c x.section ≡ true) ⊎ (is_in c x.section ≡ false) → numbers_at (slice_set bs n y) c ≡ numbers_at bs c
      go (inl i) =
          ap (option_and_then (number_in c)) (here i)
          ∙ (λ j. slice_get (h.numbers j) (c.index - (h.section j).first))
          ∙ sym (ap (option_and_then (number_in c)) (at_block bs ok c n x e i))
      go (inr i) = ap (option_and_then (number_in c)) (there i)
