-- Where a section or a cell lies among blocks in order.
use Rattle.std.proofs.Common.{◌≡◌, ◌≢◌, ℕ, ◌+◌, ◌*◌, ◌<◌, ◌≤◌, max, Bool, true, false, ◌==◌, List, length, Option, Some, None, refl, sym, ap, ◌∙◌, true≢false, arith}
use Rattle.std.specs.Prelude.{slice_get, nat_lt}
use Rattle.std.proofs.lemmas.Bool.{and_from, eqb-true, eq-eqb, le-leb, ltb-true, ltb-false, false_from_ne_true}
use Rattle.std.proofs.lemmas.Option.{slice_get_within}
use Rattle.base.specs.declared.item.Cell.{Cell}
use Rattle.base.specs.declared.item.Section.{Section}
use Rattle.base.specs.Memory.{end_of, is_in, is_inside}
use Rattle.present.specs.declared.block.Block.{Block}
use Rattle.present.specs.Blocks.{IsSection, are_stored, start_of, stop_of, stored_at, has}
use Rattle.present.specs.Found.{AllBefore, AllAfter, IsAbsentAt, IsInsideAt, IsInPart}
use Rattle.present.proofs.Finds.{find_at, find_none}
use Rattle.present.proofs.Orders.{Stored, stored_each, in_order}
use Rattle.base.proofs.Sections.{in_parts, in_from, AreInside, inside_parts}

pub one_block : {A : Type 0} (o : Option A) (x y : A) → o ≡ Some x → o ≡ Some y → x ≡ y
one_block o x y e f = let g : Some x ≡ Some y = sym e ∙ f in cc

module _ (bs : List Block) (ok : are_stored bs ≡ true) where
  -- the search's steps
  pub before_more : (m place : ℕ) (b : Block) → slice_get bs m ≡ Some b → stop_of b.section ≤ place →
      AllBefore bs (m + 1) place
  before_more m place b e h k x l f = go (k == m) refl
    where
      go : (t : Bool) → (k == m) ≡ t → stop_of x.section ≤ place
      go true i =
          let same : k ≡ m = eqb-true k m i in
          let is : x ≡ b = one_block (slice_get bs m) x b (ap (slice_get bs) (sym same) ∙ f) e in
          let long : stop_of x.section ≡ stop_of b.section = ap (λ (y : Block). stop_of y.section) is in
          omega arith
      go false i =
          let other : k ≢ m = λ same. true≢false (sym (eq-eqb k m same) ∙ i) in
          let order : stop_of x.section ≤ start_of b.section = in_order bs ok k m x b (omega arith) f e in
          omega arith

  pub after_less : (m place : ℕ) (b : Block) → slice_get bs m ≡ Some b → place < stop_of b.section →
      AllAfter bs m place
  after_less m place b e h k x l f = go (k == m) refl
    where
      go : (t : Bool) → (k == m) ≡ t → place < stop_of x.section
      go true i =
          let same : k ≡ m = eqb-true k m i in
          let is : x ≡ b = one_block (slice_get bs m) x b (ap (slice_get bs) (sym same) ∙ f) e in
          let long : stop_of x.section ≡ stop_of b.section = ap (λ (y : Block). stop_of y.section) is in
          omega arith
      go false i =
          let other : k ≢ m = λ same. true≢false (sym (eq-eqb k m same) ∙ i) in
          let order : stop_of b.section ≤ start_of x.section = in_order bs ok m k b x (omega arith) e f in
          omega arith

  -- a place between two blocks has room
  pub absent_between : (s : Section) (n : ℕ) (b : Block) → AllBefore bs n (start_of s) → slice_get bs n ≡ Some b →
      stop_of s ≤ start_of b.section → IsAbsentAt bs s n
  absent_between s n b h e g = record {
    bound = let l = slice_get_within bs n b e in omega arith;
    before = h;
    after = λ k x l f. beyond k x l f (k == n) refl;
  }
    where
      beyond : (k : ℕ) (x : Block) → n ≤ k → slice_get bs k ≡ Some x → (t : Bool) → (k == n) ≡ t →
          stop_of s ≤ start_of x.section
      beyond k x l f true i =
          let same : k ≡ n = eqb-true k n i in
          let is : x ≡ b = one_block (slice_get bs n) x b (ap (slice_get bs) (sym same) ∙ f) e in
          let long : start_of x.section ≡ start_of b.section = ap (λ (y : Block). start_of y.section) is in
          omega arith
      beyond k x l f false i =
          let other : k ≢ n = λ same. true≢false (sym (eq-eqb k n same) ∙ i) in
          let order : stop_of b.section ≤ start_of x.section = in_order bs ok n k b x (omega arith) e f in
          omega arith

  pub absent_last : (s : Section) (n : ℕ) → AllBefore bs n (start_of s) → n ≡ length bs → IsAbsentAt bs s n
  absent_last s n h e = record {
    bound = omega arith;
    before = h;
    after = λ k x l f. (let w : k < length bs = slice_get_within bs k x f in absurd (omega arith));
  }

  pub inside_at : (s : Section) (n : ℕ) (b : Block) → IsSection s → slice_get bs n ≡ Some b →
      start_of b.section ≤ start_of s → stop_of s ≤ stop_of b.section → IsInsideAt bs s n
  inside_at s n b h e l m =
      let w : Stored b = stored_each bs ok n b e in
      let has_cells = h.has_cells in
      let end = h.end in
      let long = w.end in
      let array : s.array.0 ≡ b.section.array.0 = omega arith in
      record {
        block = b;
        is = e;
        inside = and_from _ _ (eq-eqb s.array.0 b.section.array.0 array)
            (and_from _ _ (le-leb b.section.first s.first (omega arith)) (le-leb (end_of s) (end_of b.section)
            (omega arith)));
      }

  pub in_part : (s : Section) (n : ℕ) (b : Block) → IsSection s → slice_get bs n ≡ Some b →
      start_of s < stop_of b.section →
      start_of b.section < stop_of s → (start_of b.section ≤ start_of s → stop_of s ≤ stop_of b.section → ⊥) →
      IsInPart bs s
  in_part s n b h e l m out =
      let w : Stored b = stored_each bs ok n b e in
      let has_cells = h.has_cells in
      let end = h.end in
      let long = w.end in
      let some = w.has_cells in
      let array : s.array.0 ≡ b.section.array.0 = omega arith in
      let c : Cell = record { array = s.array; index = max s.first b.section.first } in
      record {
        block = b;
        place = n;
        is = e;
        cell = c;
        in_block = in_from c b.section (record { array = array; above = omega arith; below = omega arith });
        in_section = in_from c s (record { array = refl; above = omega arith; below = omega arith });
        outside = false_from_ne_true (is_inside s b.section) (λ t. apart (inside_parts s b.section t));
      }
    where
      apart : AreInside s b.section → ⊥
      apart p =
          let array = p.array in
          let first = p.first in
          let end = p.end in
          out (omega arith) (omega arith)

-- The place of a cell.

abbrev pub place_of : Cell → ℕ
place_of c = c.array.0 * 65536 + c.index

pub record IsAtPlace (c : Cell) (b : Block) : Type 0 where
  pub low : c.index < 65536
  pub above : start_of b.section ≤ place_of c
  pub below : place_of c < stop_of b.section

pub at_place : (c : Cell) (b : Block) → Stored b → is_in c b.section ≡ true → IsAtPlace c b
at_place c b w h =
    let p = in_parts c b.section h in
    let array = p.array in
    let above = p.above in
    let below = p.below in
    let end = w.end in
    record { low = omega arith; above = omega arith; below = omega arith }

pub from_place : (c : Cell) (b : Block) → Stored b → IsAtPlace c b → is_in c b.section ≡ true
from_place c b w h =
    let low = h.low in
    let above = h.above in
    let below = h.below in
    let end = w.end in
    let array : c.array.0 ≡ b.section.array.0 = omega arith in
    in_from c b.section (record { array = array; above = omega arith; below = omega arith })

module _ (bs : List Block) (ok : are_stored bs ≡ true) where
  -- no other block has a cell of a block
  pub others_lack : (c : Cell) (n : ℕ) (b : Block) → slice_get bs n ≡ Some b → is_in c b.section ≡ true →
      (k : ℕ) (x : Block) → k ≢ n → slice_get bs k ≡ Some x → is_in c x.section ≡ false
  others_lack c n b e h k x m f = false_from_ne_true (is_in c x.section) go
    where
      go : is_in c x.section ≡ true → ⊥
      go t =
          let p = at_place c b (stored_each bs ok n b e) h in
          let q = at_place c x (stored_each bs ok k x f) t in
          let a = p.above in
          let b' = p.below in
          let a' = q.above in
          let c' = q.below in
          order (nat_lt k n) refl a b' a' c'
        where
          order : (t : Bool) → nat_lt k n ≡ t → start_of b.section ≤ place_of c → place_of c < stop_of b.section →
              start_of x.section ≤ place_of c → place_of c < stop_of x.section → ⊥
          order true i a b' a' c' =
              let l : k < n = ltb-true k n i in
              let o = in_order bs ok k n x b l f e in omega arith
          order false i a b' a' c' =
              let l : n ≤ k = ltb-false k n i in
              let o = in_order bs ok n k b x (omega arith) e f in omega arith

  pub at_block : (c : Cell) (n : ℕ) (b : Block) → slice_get bs n ≡ Some b → is_in c b.section ≡ true →
      stored_at bs c ≡ Some b
  at_block c n b e h = find_at (has c) bs n b e (λ k x l f. others_lack c n b e h k x (λ i. omega arith) f) h

  -- a cell in no block
  pub none_from : (c : Cell) → ((k : ℕ) (x : Block) → slice_get bs k ≡ Some x → is_in c x.section ≡ false) →
      stored_at bs c ≡ None
  none_from c h = find_none (has c) bs h

  pub none_high : (c : Cell) → 65536 ≤ c.index → stored_at bs c ≡ None
  none_high c h = none_from c (λ k x e. false_from_ne_true (is_in c x.section)
      (λ t. (let p = (at_place c x (stored_each bs ok k x e) t).low in omega arith)))

  pub none_between : (c : Cell) (n : ℕ) → AllBefore bs n (place_of c) →
      ((k : ℕ) (x : Block) → n ≤ k → slice_get bs k ≡ Some x → place_of c < start_of x.section) →
      stored_at bs c ≡ None
  none_between c n h g = none_from c (λ k x e. false_from_ne_true (is_in c x.section) (go k x e (nat_lt k n) refl))
    where
      go : (k : ℕ) (x : Block) → slice_get bs k ≡ Some x → (t : Bool) → nat_lt k n ≡ t → is_in c x.section ≡ true → ⊥
      go k x e true i t =
          let p = at_place c x (stored_each bs ok k x e) t in
          let below = p.below in
          let before = h k x (ltb-true k n i) e in omega arith
      go k x e false i t =
          let p = at_place c x (stored_each bs ok k x e) t in
          let above = p.above in
          let after = g k x (ltb-false k n i) e in omega arith

  -- what is absent has no block
  pub absent_none : (s : Section) (n : ℕ) → IsSection s → IsAbsentAt bs s n → (c : Cell) → is_in c s ≡ true →
      stored_at bs c ≡ None
  absent_none s n w h c t =
      let p = in_parts c s t in
      let array = p.array in
      let above = p.above in
      let below = p.below in
      none_between c n (λ k x l e. (let b = h.before k x l e in omega arith)) (λ k x l e.
      (let b = h.after k x l e in omega arith))

  -- blocks begin no earlier from here on
  pub begin_after : (place n : ℕ) (b : Block) → slice_get bs n ≡ Some b → place < start_of b.section →
      (k : ℕ) (x : Block) → n ≤ k → slice_get bs k ≡ Some x → place < start_of x.section
  begin_after place n b e h k x l f = go (k == n) refl
    where
      go : (t : Bool) → (k == n) ≡ t → place < start_of x.section
      go true i =
          let same : k ≡ n = eqb-true k n i in
          let is : x ≡ b = one_block (slice_get bs n) x b (ap (slice_get bs) (sym same) ∙ f) e in
          let long : start_of x.section ≡ start_of b.section = ap (λ (y : Block). start_of y.section) is in
          omega arith
      go false i =
          let other : k ≢ n = λ same. true≢false (sym (eq-eqb k n same) ∙ i) in
          let order : stop_of b.section ≤ start_of x.section = in_order bs ok n k b x (omega arith) e f in
          omega arith
