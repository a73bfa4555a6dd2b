-- Copies between a block and the host.
use Rattle.std.proofs.Common.{◌≡◌, ◌⊎◌, ℕ, ◌+◌, ◌-◌, ◌<◌, ◌≤◌, true, false, ◌==◌, List, length, drop, Some, sym, ◌∙◌, ap, inl, inr, true≢false, subst, arith}
use Rattle.std.specs.Prelude.{slice_get, slice_set, slice_range, slice_index, option_and_then, unwrap_or, nat_le, nat_lt}
use Rattle.std.proofs.lemmas.Bool.{cases_Bool, and_from, eq-eqb, leb-false, ltb-false}
use Rattle.std.proofs.lemmas.Option.{slice_get-get_or, unwrap_or-slice_get, get_or_from_slice_get}
use Rattle.std.proofs.lemmas.List.Edits.{length-between}
use Rattle.base.specs.declared.item.Cell.{Cell}
use Rattle.base.specs.declared.item.Section.{Section}
use Rattle.host_memory.specs.declared.memory.Memory.{Memory as Arrays}
use Rattle.base.specs.Memory.{Memory, end_of, is_in, is_inside, within}
use Rattle.base.specs.Map.{Device}
use Rattle.base.specs.Arrays.{overwritten}
use Rattle.host_memory.specs.Arrays.{IsWithin, memory_of, row_of}
use Rattle.base.proofs.Places.{get_take, get_drop, overwritten_before, overwritten_in, overwritten_after}
use Rattle.shared_row.specs.Rows.{numbers_of}
use Rattle.present.specs.declared.block.Block.{Block}
use Rattle.present.specs.Blocks.{Show, are_stored, number_in, stored_at}
use Rattle.base.proofs.Sections.{in_parts, inside_parts, inside_in}
use Rattle.present.proofs.Orders.{Stored, stored_each}
use Rattle.present.proofs.Founds.{at_block}
use Rattle.present.proofs.Shown.{within_in, within_out, shows_changed}
use Rattle.present.proofs.BlockReads.{change_set, number_within}

-- a part of a list
pub part_at : (xs : List ℕ) (a b k : ℕ) → a + k < b → slice_get (slice_range xs a b) k ≡ slice_get xs (a + k)
part_at xs a b k h = get_take (b - a) (drop a xs) k (omega arith) ∙ get_drop a xs k

module _ (b : Block) (s : Section) (w : Stored b) (i : is_inside s b.section ≡ true) where
  abbrev offset : ℕ
  offset = s.first - b.section.first

  pub offset_fits : s.first - b.section.first + s.length ≤ length (numbers_of b.values)
  offset_fits =
      let p = inside_parts s b.section i in
      let first = p.first in
      let end = p.end in
      let numbers = w.numbers in
      omega arith

  -- a cell of the block that is not the section's
  outside : (c : Cell) → is_in c b.section ≡ true → is_in c s ≡ false →
      (c.index < s.first) ⊎ (s.first + s.length ≤ c.index)
  outside c k out = go (cases_Bool (nat_le s.first c.index)) (cases_Bool (nat_lt c.index (end_of s)))
    where
      array : c.array.0 ≡ s.array.0
      array = (in_parts c b.section k).array ∙ sym (inside_parts s b.section i).array

      go : (nat_le s.first c.index ≡ true) ⊎ (nat_le s.first c.index ≡ false) →
          (nat_lt c.index (end_of s) ≡ true) ⊎ (nat_lt c.index (end_of s) ≡ false) →
          (c.index < s.first) ⊎ (s.first + s.length ≤ c.index)
      go (inr a) _ = let below = leb-false s.first c.index a in inl (omega arith)
      go (inl a) (inr e) = let past = ltb-false c.index (end_of s) e in inr (omega arith)
      go (inl a) (inl e) =
          absurd (true≢false (sym (and_from (c.array.0 == s.array.0) _ (eq-eqb c.array.0 s.array.0 array)
          (and_from _ _ a e)) ∙ out))

  module _ (xs : List ℕ) (long : length xs ≡ s.length) where
    fits : s.first - b.section.first + length xs ≤ length (numbers_of b.values)
    fits = let f = offset_fits in omega arith

    pub overwritten_here : (c : Cell) → is_in c s ≡ true →
        slice_get (overwritten (numbers_of b.values) (s.first - b.section.first) xs) (c.index - b.section.first)
        ≡ slice_get xs (c.index - s.first)
    overwritten_here c k =
        let p = in_parts c s k in
        let q = inside_parts s b.section i in
        let above = p.above in
        let below = p.below in
        let first = q.first in
        let same : c.index - b.section.first - (s.first - b.section.first) ≡ c.index - s.first = omega arith in
        overwritten_in (numbers_of b.values) xs (s.first - b.section.first) fits (c.index - b.section.first) (omega arith)
        (omega arith)
        ∙ ap (slice_get xs) same

    pub overwritten_there : (c : Cell) → is_in c b.section ≡ true → is_in c s ≡ false →
        slice_get (overwritten (numbers_of b.values) (s.first - b.section.first) xs) (c.index - b.section.first)
        ≡ slice_get (numbers_of b.values) (c.index - b.section.first)
    overwritten_there c k out = go (outside c k out)
      where
        go : (c.index < s.first) ⊎ (s.first + s.length ≤ c.index) →
            slice_get (overwritten (numbers_of b.values) (s.first - b.section.first) xs) (c.index - b.section.first)
            ≡ slice_get (numbers_of b.values) (c.index - b.section.first)
        go (inl l) =
            let above = (in_parts c b.section k).above in
            overwritten_before (numbers_of b.values) xs (s.first - b.section.first) fits (c.index - b.section.first)
            (omega arith)
        go (inr l) =
            let above = (in_parts c b.section k).above in
            let first = (inside_parts s b.section i).first in
            overwritten_after (numbers_of b.values) xs (s.first - b.section.first) fits (c.index - b.section.first)
            (omega arith)

-- The host's part.

module _ (host : Arrays) (s : Section) (w : IsWithin host s) where
  abbrev row : List ℕ
  row = row_of host s.array.0

  pub section_length : length (slice_range (row_of host s.array.0) s.first (end_of s)) ≡ s.length
  section_length =
      let l = length-between (row_of host s.array.0) s.first (end_of s) w.end in omega arith

  pub host_number : (c : Cell) → is_in c s ≡ true →
      slice_get (slice_range (row_of host s.array.0) s.first (end_of s)) (c.index - s.first) ≡ Some (memory_of host c)
  host_number c k =
      let p = in_parts c s k in
      let above = p.above in
      let below = p.below in
      let end = w.end in
      let at : s.first + (c.index - s.first) ≡ c.index = omega arith in
      let same : row_of host s.array.0 ≡ row_of host c.array.0 = ap (row_of host) (sym p.array) in
      let there : c.index < length (row_of host c.array.0) = subst (λ (xs : List ℕ). c.index < length xs) same
      (omega arith) in
      let e = slice_get-get_or (row_of host c.array.0) c.index 0 there in
      part_at (row_of host s.array.0) s.first (end_of s) (c.index - s.first) (omega arith)
      ∙ ap (slice_get (row_of host s.array.0)) at
      ∙ ap (λ xs. slice_get xs c.index) same
      ∙ e ∙ ap Some (sym (unwrap_or-slice_get (row_of host c.array.0) c.index 0))

-- A section of a block takes the host's numbers.
pub shows_brought : (bs : List Block) (used : ℕ) (d : Device) (ok : are_stored bs ≡ true) (n : ℕ) (b after : Block)
    (s : Section) (host : Arrays) →
    slice_get bs n ≡ Some b → is_inside s b.section ≡ true → IsWithin host s →
    after.section ≡ b.section → after.count ≡ b.count →
    (numbers_of after.values) ≡ overwritten (numbers_of b.values) (s.first - b.section.first) (slice_range
    (row_of host s.array.0) s.first (end_of s)) →
    Show bs used d →
    Show (slice_set bs n after) used (record {
      blocks = d.blocks;
      cells = within s (λ c. Some
          (memory_of host c)) d.cells;
    })
shows_brought bs used d ok n b after s host e i w same count values h =
    shows_changed bs (slice_set bs n after) used d h b after same all (change_set bs ok n b after e same)
    (within s (λ c. Some (memory_of host c)) d.cells) count inside outside'
  where
    stored : Stored b
    stored = stored_each bs ok n b e

    all : (c : Cell) → is_in c b.section ≡ true → stored_at bs c ≡ Some b
    all c k = at_block bs ok c n b e k

    new_number : (c : Cell) → number_in c after
        ≡ slice_get (overwritten (numbers_of b.values) (s.first - b.section.first) (slice_range
        (row_of host s.array.0) s.first (end_of s)))
        (c.index - b.section.first)
    new_number c = (λ j. slice_get (values j) (c.index - (same j).first))

    inside : (c : Cell) → is_in c b.section ≡ true →
        within s (λ c. Some (memory_of host c)) d.cells c ≡ number_in c after
    inside c k = go (cases_Bool (is_in c s)) ∙ sym (new_number c)
      where
        go : (is_in c s ≡ true) ⊎ (is_in c s ≡ false) →
            within s (λ c. Some (memory_of host c)) d.cells c
            ≡ slice_get (overwritten (numbers_of b.values) (s.first - b.section.first) (slice_range
            (row_of host s.array.0) s.first (end_of s)))
            (c.index - b.section.first)
        go (inl t) =
            within_in s (λ c. Some (memory_of host c)) d.cells c t
            ∙ sym (host_number host s w c t)
            ∙ sym (overwritten_here b s stored i (slice_range (row_of host s.array.0) s.first (end_of s))
            (section_length host s w) c t)
        go (inr t) =
            within_out s (λ c. Some (memory_of host c)) d.cells c t
            ∙ h.numbers c ∙ ap (option_and_then (number_in c)) (all c k)
            ∙ sym (overwritten_there b s stored i (slice_range (row_of host s.array.0) s.first (end_of s))
            (section_length host s w) c k t)

    outside' : (c : Cell) → is_in c b.section ≡ false → within s (λ c. Some (memory_of host c)) d.cells c ≡ d.cells c
    outside' c k = go (cases_Bool (is_in c s))
      where
        go : (is_in c s ≡ true) ⊎ (is_in c s ≡ false) → within s (λ c. Some (memory_of host c)) d.cells c ≡ d.cells c
        go (inl t) = absurd (true≢false (sym (inside_in c s b.section i t) ∙ k))
        go (inr t) = within_out s (λ c. Some (memory_of host c)) d.cells c t

-- The host takes the numbers of a block.
pub brought_out : (bs : List Block) (used : ℕ) (d : Device) (ok : are_stored bs ≡ true) (n : ℕ) (b : Block)
    (s : Section)
    (host : Memory) → slice_get bs n ≡ Some b → is_inside s b.section ≡ true → Show bs used d → (c : Cell) →
    within s (λ x. slice_index (slice_range (numbers_of b.values) (s.first - b.section.first)
    (s.first - b.section.first + s.length)) (x.index - s.first)) host c
    ≡ within s (λ x. unwrap_or (d.cells x) (host x)) host c
brought_out bs used d ok n b s host e i h c = go (cases_Bool (is_in c s))
  where
    stored : Stored b
    stored = stored_each bs ok n b e

    here : is_in c s ≡ true →
        slice_index (slice_range (numbers_of b.values) (s.first - b.section.first) (s.first - b.section.first + s.length))
        (c.index - s.first)
        ≡ unwrap_or (d.cells c) (host c)
    here t =
        let k = inside_in c s b.section i t in
        let p = in_parts c s t in
        let above = p.above in
        let below = p.below in
        let first = (inside_parts s b.section i).first in
        let at : s.first - b.section.first + (c.index - s.first) ≡ c.index - b.section.first = omega arith in
        let there = number_within b c stored k in
        let number = slice_get-get_or (numbers_of b.values) (c.index - b.section.first) 0 there in
        let part = part_at (numbers_of b.values) (s.first - b.section.first) (s.first - b.section.first + s.length)
        (c.index - s.first) (omega arith)
        ∙ ap (slice_get (numbers_of b.values)) at ∙ number in
        let cells = h.numbers c ∙ ap (option_and_then (number_in c)) (at_block bs ok c n b e k) ∙ number in
        get_or_from_slice_get _ (c.index - s.first) _ 0 part
        ∙ sym (ap (λ o. unwrap_or o (host c)) cells)

    go : (is_in c s ≡ true) ⊎ (is_in c s ≡ false) →
        within s (λ x. slice_index (slice_range (numbers_of b.values) (s.first - b.section.first)
        (s.first - b.section.first + s.length)) (x.index - s.first)) host c
        ≡ within s (λ x. unwrap_or (d.cells x) (host x)) host c
    go (inl t) = within_in s (λ x. slice_index (slice_range (numbers_of b.values) (s.first - b.section.first)
        (s.first - b.section.first + s.length)) (x.index - s.first)) host c t ∙ here t
        ∙ sym (within_in s (λ x. unwrap_or (d.cells x) (host x)) host c t)
    go (inr t) = within_out s (λ x. slice_index (slice_range (numbers_of b.values) (s.first - b.section.first)
        (s.first - b.section.first + s.length)) (x.index - s.first)) host c t
        ∙ sym (within_out s (λ x. unwrap_or (d.cells x) (host x)) host c t)

pub part_length : (xs : List ℕ) (a n : ℕ) → a + n ≤ length xs → length (slice_range xs a (a + n)) ≡ n
part_length xs a n h = let l = length-between xs a (a + n) h in omega arith
