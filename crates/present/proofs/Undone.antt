-- A count that is taken back, and how counts grow.
use Rattle.std.proofs.Common.{◌≡◌, ◌⊎◌, ℕ, zero, suc, ◌+◌, ◌-◌, ◌≤◌, Bool, true, false, List, [], ◌∷◌, map, length, Option, Some, None, refl, sym, ◌∙◌, ap, inl, inr, arith}
use Rattle.std.specs.Prelude.{slice_get, slice_set, insert, remove, option_map}
use Rattle.std.proofs.lemmas.Bool.{cases_Bool}
use Rattle.std.proofs.lemmas.Option.{slice_get_within}
use Rattle.std.proofs.lemmas.List.Sums.{sum_by-cons}
use Rattle.base.specs.declared.item.Cell.{Cell}
use Rattle.base.specs.declared.item.MapItem.{MapItem}
use Rattle.base.specs.Memory.{is_in, within}
use Rattle.base.specs.Map.{Block as Present, in_use}
use Rattle.base.proofs.Places.{get_set_same}
use Rattle.present.specs.declared.Table.{Table}
use Rattle.present.specs.declared.block.Block.{Block}
use Rattle.present.specs.Blocks.{IsSection, are_stored, cells_in, has, present, stored_at}
use Rattle.base.specs.Blocks.{AreApart, holder}
use Rattle.present.specs.Change.{IsCountedAt, IsUncounted, CanUncount, blocks_of, with_count}
use Rattle.present.specs.Table.{Shows, count_at, device_of}
use Rattle.present.proofs.Finds.{find_yes, find_no}
use Rattle.present.proofs.Orders.{stored_each, parts, cells_more}
use Rattle.present.proofs.Founds.{at_block, others_lack, none_from}
use Rattle.present.proofs.Shown.{within_in, within_out}
use Rattle.present.proofs.BlockReads.{change_insert, change_set}
use Rattle.present.proofs.Entries.{get_insert}

remove_insert : (xs : List Block) (n : ℕ) (y : Block) → n ≤ length xs → remove (insert xs n y) n ≡ xs
remove_insert xs zero y h = refl
remove_insert [] (suc n) y h = absurd (omega arith)
remove_insert (x ∷ xs) (suc n) y h = ap (λ zs. x ∷ zs) (remove_insert xs n y (omega arith))

set_set : (xs : List Block) (n : ℕ) (x y : Block) → slice_set (slice_set xs n x) n y ≡ slice_set xs n y
set_set [] n x y = refl
set_set (z ∷ xs) zero x y = refl
set_set (z ∷ xs) (suc n) x y = ap (λ zs. z ∷ zs) (set_set xs n x y)

set_same : (xs : List Block) (n : ℕ) (x : Block) → slice_get xs n ≡ Some x → slice_set xs n x ≡ xs
set_same [] n x e = refl
set_same (z ∷ xs) zero x e = let is : z ≡ x = cc in ap (λ y. y ∷ xs) (sym is)
set_same (z ∷ xs) (suc n) x e = ap (λ zs. z ∷ zs) (set_same xs n x e)

module _ (old new : Table) (item : MapItem) (n : ℕ) (copied : Bool) where
  pub can_uncount : (creates : Bool) → IsCountedAt old new item n copied creates → (t : Table) →
      blocks_of t ≡ blocks_of new → CanUncount t n
  can_uncount true h t e = record {
    block = h.creates.block;
    is = ap (λ xs. slice_get xs n) (e ∙ h.creates.blocks)
        ∙ get_insert (blocks_of old) n h.creates.block h.absent.bound;
    above = (let c = h.creates.count in omega arith);
  }
  can_uncount false h t e = record {
    block = with_count h.before (h.before.count + 1);
    is = ap (λ xs. slice_get xs n) (e ∙ h.blocks)
        ∙ get_set_same (blocks_of old) n (with_count h.before (h.before.count + 1)) (slice_get_within
        (blocks_of old) n h.before h.is);
    above = omega arith;
  }

  pub uncounted : (creates : Bool) → IsCountedAt old new item n copied creates → (t end : Table) →
      blocks_of t ≡ blocks_of new → IsUncounted t end n creates → blocks_of end ≡ blocks_of old
  uncounted true h t end e u =
      u.blocks ∙ ap (λ xs. remove xs n) (e ∙ h.creates.blocks)
      ∙ remove_insert (blocks_of old) n h.creates.block h.absent.bound
  uncounted false h t end e u =
      let is = ap (λ xs. slice_get xs n) (e ∙ h.blocks)
      ∙ get_set_same (blocks_of old) n (with_count h.before (h.before.count + 1)) (slice_get_within
      (blocks_of old) n h.before h.is) in
      let less : h.before.count + 1 - 1 ≡ h.before.count = omega arith in
      u (with_count h.before (h.before.count + 1)) is
      ∙ ap (λ xs. slice_set xs n (with_count h.before (h.before.count + 1 - 1))) (e ∙ h.blocks)
      ∙ set_set (blocks_of old) n (with_count h.before (h.before.count + 1)) (with_count h.before
      (h.before.count + 1 - 1))
      ∙ ap (λ k. slice_set (blocks_of old) n (with_count h.before k)) less
      ∙ set_same (blocks_of old) n h.before h.is

  -- no count grows by more than one
  pub count_grows : IsSection item.section → (creates : Bool) → IsCountedAt old new item n copied creates →
      (c : Cell) →
      count_at new c ≤ count_at old c + 1
  count_grows w true h c =
      let b = h.creates.block in
      let change = ap (λ xs. stored_at xs c) h.creates.blocks
      ∙ change_insert (blocks_of old) old.stored item.section n b w h.absent h.creates.section c in
      go (cases_Bool (is_in c b.section)) change
    where
      go : (is_in c h.creates.block.section ≡ true) ⊎ (is_in c h.creates.block.section ≡ false) →
          stored_at (blocks_of new) c ≡ within h.creates.block.section (λ x. Some h.creates.block) (stored_at
          (blocks_of old)) c →
          count_at new c ≤ count_at old c + 1
      go (inl i) e =
          let one = h.creates.count in
          let is = ap {B = ℕ} (λ (o : Option Block). elim (option_map present o) [ None ↦ 0 | Some x ↦ x.count ])
          (e ∙ within_in h.creates.block.section (λ x. Some h.creates.block) (stored_at (blocks_of old)) c i) in
          omega (arith, is, one)
      go (inr i) e =
          let is = ap {B = ℕ} (λ (o : Option Block). elim (option_map present o) [ None ↦ 0 | Some x ↦ x.count ])
          (e ∙ within_out h.creates.block.section (λ x. Some h.creates.block) (stored_at (blocks_of old)) c i) in
          omega (arith, is)
  count_grows w false h c =
      let change = ap (λ xs. stored_at xs c) h.blocks
      ∙ change_set (blocks_of old) old.stored n h.before (with_count h.before (h.before.count + 1)) h.is refl c in
      go (cases_Bool (is_in c h.before.section)) change
    where
      go : (is_in c h.before.section ≡ true) ⊎ (is_in c h.before.section ≡ false) →
          stored_at (blocks_of new) c
          ≡ within h.before.section (λ x. Some (with_count h.before (h.before.count + 1))) (stored_at
          (blocks_of old)) c →
          count_at new c ≤ count_at old c + 1
      go (inl i) e =
          let is = ap {B = ℕ} (λ (o : Option Block). elim (option_map present o) [ None ↦ 0 | Some x ↦ x.count ])
          (e ∙ within_in h.before.section (λ x. Some (with_count h.before (h.before.count + 1))) (stored_at
          (blocks_of old)) c i) in
          let was = ap {B = ℕ} (λ (o : Option Block). elim (option_map present o) [ None ↦ 0 | Some x ↦ x.count ])
          (at_block (blocks_of old) old.stored c n h.before h.is i) in
          omega (arith, is, was)
      go (inr i) e =
          let is = ap {B = ℕ} (λ (o : Option Block). elim (option_map present o) [ None ↦ 0 | Some x ↦ x.count ])
          (e ∙ within_out h.before.section (λ x. Some (with_count h.before (h.before.count + 1))) (stored_at
          (blocks_of old)) c i) in
          omega (arith, is)

-- A table shows its own device.

holder_present : (bs : List Block) (c : Cell) → holder (map present bs) c ≡ option_map present (stored_at bs c)
holder_present [] c = refl
holder_present (b ∷ bs) c = go (cases_Bool (is_in c b.section)) (holder_present bs c)
  where
    go : (is_in c b.section ≡ true) ⊎ (is_in c b.section ≡ false) →
        holder (map present bs) c ≡ option_map present (stored_at bs c) →
        holder (map present (b ∷ bs)) c ≡ option_map present (stored_at (b ∷ bs) c)
    go (inl e) again =
        find_yes (λ (x : Present). is_in c x.section) (present b) (map present bs) e
        ∙ ap (option_map present) (sym (find_yes (has c) b bs e))
    go (inr e) again =
        find_no (λ (x : Present). is_in c x.section) (present b) (map present bs) e ∙ again
        ∙ ap (option_map present) (sym (find_no (has c) b bs e))

apart_present : (bs : List Block) → are_stored bs ≡ true → AreApart (map present bs)
apart_present [] ok = tt
apart_present (b ∷ bs) ok = record {
  cells = (stored_each (b ∷ bs) ok zero b refl).has_cells;
  apart = λ c i. holder_present bs c ∙ ap (option_map present) (none_from bs (parts b bs ok).others c
      (λ k x e. others_lack (b ∷ bs) ok c zero b refl i (suc k) x (λ z. omega arith) e));
  rest = apart_present bs (parts b bs ok).others;
}

in_use_present : (bs : List Block) → in_use (map present bs) ≡ cells_in bs
in_use_present [] = refl
in_use_present (b ∷ bs) =
    let r = in_use_present bs in
    let size : Present → ℕ = λ x. x.section.length in
    omega (arith, r, cells_more b bs, sum_by-cons (λ (x : Present). x.section.length) (present b) (map present bs))

pub own_shown : (t : Table) → Shows t (device_of t)
own_shown t = record {
  apart = apart_present (blocks_of t) t.stored;
  blocks = holder_present (blocks_of t);
  numbers = λ c. refl;
  in_use = in_use_present (blocks_of t) ∙ sym t.counted;
}
