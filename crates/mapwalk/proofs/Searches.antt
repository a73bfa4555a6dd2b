-- Where a section lies among blocks in order.
use Rattle.std.proofs.Common.{◌≡◌, ◌≢◌, ◌⊎◌, ℕ, zero, suc, ◌+◌, ◌<◌, ◌≤◌, ◌==◌, Bool, true, false, List, [], ◌∷◌, length, map, Option, Some, None, refl, sym, ap, ◌∙◌, inl, inr, true≢false, arith}
use Rattle.std.specs.Prelude.{find, nat_lt, slice_get}
use Rattle.std.proofs.lemmas.Bool.{and_from, and_parts, cases_Bool, cond-false, cond-true, eq-eqb, eqb-true, eqb-false, false_from_ne_true, lt-ltb, ltb-false, ltb-true}
use Rattle.std.proofs.lemmas.Option.{same_Some}
use Rattle.base.specs.declared.item.Section.{Section}
use Rattle.base.specs.Map.{Absent, Block, InPart, presence}
use Rattle.base.specs.Memory.{is_inside, overlaps, same_section}
use Rattle.base.proofs.Blocks.{meets}
use Rattle.base.proofs.Moves.{is_absent, is_part, is_there}
use Rattle.base.proofs.Sections.{inside_parts, same_parts}
use Rattle.mapwalk.specs.declared.blocks.Block.{Block as Kept}
use Rattle.mapwalk.specs.declared.spots.Spot.{Spot}
use Rattle.mapwalk.specs.Blocks.{block_of}
use Rattle.mapwalk.specs.Spots.{AllBefore, IsAbsentAt, IsInsideAt, IsOrder, IsSmall, start_of, stop_of}

-- Sections.

overlap_parts : (x s : Section) → overlaps x s ≡ true → (start_of x < stop_of s) × (start_of s < stop_of x)
overlap_parts x s h =
    let p = and_parts (x.array.0 == s.array.0) _ h in
    let q = and_parts (nat_lt x.first (s.first + s.length)) _ p.1 in
    let e = eqb-true x.array.0 s.array.0 p.0 in
    let a = ltb-true x.first (s.first + s.length) q.0 in
    let b = ltb-true s.first (x.first + x.length) q.1 in
    (omega arith, omega arith)

clear : (x s : Section) → (start_of x < stop_of s → start_of s < stop_of x → ⊥) → overlaps x s ≡ false
clear x s h = false_from_ne_true (overlaps x s) (λ e. let p = overlap_parts x s e in h p.0 p.1)

overlap_from : (x s : Section) → x.array.0 ≡ s.array.0 → start_of x < stop_of s → start_of s < stop_of x → overlaps x s ≡ true
overlap_from x s e a b =
    and_from _ _ (eq-eqb x.array.0 s.array.0 e)
    (and_from _ _ (lt-ltb x.first (s.first + s.length) (omega arith)) (lt-ltb s.first (x.first + x.length) (omega arith)))

same_array : (x s : Section) → IsSmall x → IsSmall s → start_of x < stop_of s → start_of s < stop_of x → x.array.0 ≡ s.array.0
same_array x s m n a b = go (nat_lt x.array.0 s.array.0) refl (nat_lt s.array.0 x.array.0) refl
  where
    go : (t : Bool) → nat_lt x.array.0 s.array.0 ≡ t → (u : Bool) → nat_lt s.array.0 x.array.0 ≡ u → x.array.0 ≡ s.array.0
    go true e u f =
        let l = ltb-true x.array.0 s.array.0 e in
        let p = m.first' in
        let q = m.length' in
        absurd (omega arith)
    go false e true f =
        let l = ltb-true s.array.0 x.array.0 f in
        let p = n.first' in
        let q = n.length' in
        absurd (omega arith)
    go false e false f =
        let k = ltb-false x.array.0 s.array.0 e in
        let l = ltb-false s.array.0 x.array.0 f in
        omega arith

inside_order : (s x : Section) → is_inside s x ≡ true → (start_of x ≤ start_of s) × (stop_of s ≤ stop_of x)
inside_order s x h =
    let p = inside_parts s x h in
    let e = p.array in
    let a = p.first in
    let b = p.end in
    (omega arith, omega arith)

alike : (s t : Section) → same_section s t ≡ true → (start_of s ≡ start_of t) × (stop_of s ≡ stop_of t)
alike s t h =
    let p = same_parts s t h in
    let a = p.array in
    let b = p.first in
    let c = p.length in
    (omega (arith, a, b), omega (arith, a, b, c))

-- The first block that passes a test.

module _ (test : Block → Bool) where
  find_none : (bs : List Kept) → ((n : ℕ) (b : Kept) → slice_get bs n ≡ Some b → test (block_of b) ≡ false) →
      find test (map block_of bs) ≡ None
  find_none [] h = refl
  find_none (b ∷ bs) h = cond-false (test (block_of b)) _ _ (h zero b refl) ∙ find_none bs (λ n c e. h (suc n) c e)

  find_at : (bs : List Kept) (n : ℕ) (b : Kept) → slice_get bs n ≡ Some b → test (block_of b) ≡ true →
      ((k : ℕ) (c : Kept) → k ≢ n → slice_get bs k ≡ Some c → test (block_of c) ≡ false) →
      find test (map block_of bs) ≡ Some (block_of b)
  find_at [] n b e t h = absurd (cc e)
  find_at (c ∷ bs) zero b e t h =
      let is : c ≡ b = same_Some c b e in
      cond-true (test (block_of c)) _ _ (ap (λ x. test (block_of x)) is ∙ t) ∙ ap (λ x. Some (block_of x)) is
  find_at (c ∷ bs) (suc n) b e t h =
      cond-false (test (block_of c)) _ _ (h zero c (λ z. absurd (omega (arith, z))) refl)
      ∙ find_at bs n b e t (λ k x other at. h (suc k) x (λ z. other (omega (arith, z))) at)

  pub record IsIn (bs : List Kept) (y : Block) : Type 0 where
    pub number : ℕ
    pub kept : Kept
    pub is : slice_get bs number ≡ Some kept
    pub same : block_of kept ≡ y
    pub passes : test y ≡ true

  found_in : (bs : List Kept) (y : Block) → find test (map block_of bs) ≡ Some y → IsIn bs y
  found_in [] y h = absurd (cc h)
  found_in (b ∷ bs) y h = go (found_in bs y) (cases_Bool (test (block_of b)))
    where
      go : (find test (map block_of bs) ≡ Some y → IsIn bs y) → (test (block_of b) ≡ true) ⊎ (test (block_of b) ≡ false) → IsIn (b ∷ bs) y
      go again (inl t) =
          let is = same_Some (block_of b) y (sym (cond-true (test (block_of b)) _ _ t) ∙ h) in
          record { number = zero; kept = b; is = refl; same = is; passes = ap test (sym is) ∙ t }
      go again (inr f) =
          let r = again (sym (cond-false (test (block_of b)) _ _ f) ∙ h) in
          record { number = suc r.number; kept = r.kept; is = r.is; same = r.same; passes = r.passes }

  none_passes : (bs : List Kept) → find test (map block_of bs) ≡ None → (n : ℕ) (b : Kept) → slice_get bs n ≡ Some b →
      test (block_of b) ≡ false
  none_passes [] h n b e = absurd (cc e)
  none_passes (c ∷ bs) h n b e = go (λ g n e. none_passes bs g n b e) (cases_Bool (test (block_of c))) n e
    where
      go : (find test (map block_of bs) ≡ None → (n : ℕ) → slice_get bs n ≡ Some b → test (block_of b) ≡ false) →
          (test (block_of c) ≡ true) ⊎ (test (block_of c) ≡ false) → (n : ℕ) → slice_get (c ∷ bs) n ≡ Some b →
          test (block_of b) ≡ false
      go again (inl t) n e = absurd (cc (sym (cond-true (test (block_of c)) _ _ t) ∙ h))
      go again (inr f) zero e = ap (λ x. test (block_of x)) (sym (same_Some c b e)) ∙ f
      go again (inr f) (suc n) e = again (sym (cond-false (test (block_of c)) _ _ f) ∙ h) n e

-- Where a section lies.

module _ (bs : List Kept) (spots : List Spot) (ok : IsOrder bs spots) (s : Section) where
  -- the spot of a block
  spot_of : (n : ℕ) (c : Kept) → slice_get bs n ≡ Some c → (k : ℕ) × (x : Spot) × (slice_get spots k ≡ Some x) × (x.number ≡ n) × (c.section ≡ x.section)
  spot_of n c e =
      let h = ok.spot n c e in
      let b = ok.block h.place h.spot h.is in
      let same : b.block ≡ c = same_Some b.block c (sym b.is ∙ ap (slice_get bs) h.number ∙ e) in
      (h.place, h.spot, h.is, h.number, ap (λ (y : Kept). y.section) (sym same) ∙ b.section)

  -- where no spot overlaps it, it is absent
  absent_from : ((k : ℕ) (x : Spot) → slice_get spots k ≡ Some x → overlaps x.section s ≡ false) →
      presence (map block_of bs) s ≡ Absent
  absent_from h = is_absent (map block_of bs) s (find_none (meets s) bs (λ n c e.
      let p = spot_of n c e in ap (λ y. overlaps y s) p.4 ∙ h p.0 p.1 p.2))

  module _ (n : ℕ) (bound : n ≤ length spots) (before : AllBefore spots n (start_of s)) where
    clear_before : (k : ℕ) (x : Spot) → k < n → slice_get spots k ≡ Some x → overlaps x.section s ≡ false
    clear_before k x l e = clear x.section s (λ a b. let o = before k x l e in omega (arith, a, b, o))

    pub absent_at : ((k : ℕ) (x : Spot) → n ≤ k → slice_get spots k ≡ Some x → stop_of s ≤ start_of x.section) →
        IsAbsentAt bs spots s n
    absent_at after = record {
      bound = bound;
      before = before;
      after = after;
      absent = absent_from (λ k x e. go k x e (nat_lt k n) refl);
    }
      where
        go : (k : ℕ) (x : Spot) → slice_get spots k ≡ Some x → (t : Bool) → nat_lt k n ≡ t → overlaps x.section s ≡ false
        go k x e true l = clear_before k x (ltb-true k n l) e
        go k x e false l = clear x.section s (λ a b. let o = after k x (ltb-false k n l) e in omega (arith, a, b, o))

    -- those after the spot that begins behind it begin behind it too
    pub absent_before : (x : Spot) → slice_get spots n ≡ Some x → stop_of s ≤ start_of x.section → IsAbsentAt bs spots s n
    absent_before x at h = absent_at (λ k y l e. go k y l e (k == n) refl)
      where
        go : (k : ℕ) (y : Spot) → n ≤ k → slice_get spots k ≡ Some y → (t : Bool) → (k == n) ≡ t → stop_of s ≤ start_of y.section
        go k y l e true i =
            let is = same_Some y x (sym e ∙ ap (slice_get spots) (eqb-true k n i) ∙ at) in
            let same : start_of y.section ≡ start_of x.section = ap (λ (z : Spot). start_of z.section) is in
            omega (arith, h, same)
        go k y l e false i =
            let other = eqb-false k n i in
            let o = ok.in_order n k x y (omega (arith, other, l)) at e in
            omega (arith, h, o)

    module _ (x : Spot) (at : slice_get spots n ≡ Some x) (starts : start_of s < stop_of x.section)
        (stops : start_of x.section < stop_of s) where
      -- a block that is not that of the spot ends before the section, or begins behind the spot
      apart : (m : ℕ) (c : Kept) → m ≢ x.number → slice_get bs m ≡ Some c →
          (stop_of c.section ≤ start_of s) ⊎ (stop_of x.section ≤ start_of c.section)
      apart m c other e = go (spot_of m c e)
        where
          go : (k : ℕ) × (y : Spot) × (slice_get spots k ≡ Some y) × (y.number ≡ m) × (c.section ≡ y.section) →
              (stop_of c.section ≤ start_of s) ⊎ (stop_of x.section ≤ start_of c.section)
          go p = by_order (nat_lt p.0 n) refl (p.0 == n) refl
            where
              by_order : (t : Bool) → nat_lt p.0 n ≡ t → (u : Bool) → (p.0 == n) ≡ u →
                  (stop_of c.section ≤ start_of s) ⊎ (stop_of x.section ≤ start_of c.section)
              by_order true l u f =
                  let o = before p.0 p.1 (ltb-true p.0 n l) p.2 in
                  let same : stop_of c.section ≡ stop_of p.1.section = ap stop_of p.4 in
                  inl (omega (arith, o, same))
              by_order false l true f =
                  let is = same_Some p.1 x (sym p.2 ∙ ap (slice_get spots) (eqb-true p.0 n f) ∙ at) in
                  absurd (other (sym p.3 ∙ ap (λ (y : Spot). y.number) is))
              by_order false l false f =
                  let o = ok.in_order n p.0 x p.1 (let a = ltb-false p.0 n l in let b = eqb-false p.0 n f in omega (arith, a, b)) at p.2 in
                  let same : start_of c.section ≡ start_of p.1.section = ap start_of p.4 in
                  inr (omega (arith, o, same))

      pub inside_at : is_inside s x.section ≡ true → IsInsideAt bs spots s n
      inside_at i =
          let b = ok.block n x at in
          let order = inside_order s x.section i in
          record {
            spot = x;
            is = at;
            block = b.block;
            there = b.is;
            section = b.section;
            some = let o = order.0 in omega (arith, o, starts);
            inside =
                is_there (map block_of bs) s (block_of b.block)
                (find_at (meets s) bs x.number b.block b.is
                (ap (λ y. overlaps y s) b.section ∙ overlap_from x.section s (sym (inside_parts s x.section i).array) stops starts)
                (λ m c other e. clear c.section s (λ p q. far c (apart m c other e) order p q)))
                (ap (is_inside s) b.section ∙ i);
            one = λ m c other e. false_from_ne_true (same_section c.section b.block.section)
                (λ h. unlike c.section b.block.section (apart m c other e) order (alike c.section b.block.section h) (ap start_of b.section) (ap stop_of b.section));
          }
        where
          far : (c : Kept) → (stop_of c.section ≤ start_of s) ⊎ (stop_of x.section ≤ start_of c.section) →
              (start_of x.section ≤ start_of s) × (stop_of s ≤ stop_of x.section) → start_of c.section < stop_of s →
              start_of s < stop_of c.section → ⊥
          far c (inl a) o p q = omega (arith, a, q)
          far c (inr a) o p q = let b = o.1 in omega (arith, a, b, p)

          unlike : (c b : Section) → (stop_of c ≤ start_of s) ⊎ (stop_of x.section ≤ start_of c) →
              (start_of x.section ≤ start_of s) × (stop_of s ≤ stop_of x.section) → (start_of c ≡ start_of b) × (stop_of c ≡ stop_of b) →
              start_of b ≡ start_of x.section → stop_of b ≡ stop_of x.section → ⊥
          unlike c b (inl a) o same f g = let e = same.1 in omega (arith, a, e, g, starts)
          unlike c b (inr a) o same f g = let e = same.0 in let p = o.0 in omega (arith, a, e, f, p, starts)

      pub part_at : is_inside s x.section ≡ false → IsSmall x.section → IsSmall s → presence (map block_of bs) s ≡ InPart
      part_at i m k = go (find (meets s) (map block_of bs)) refl
        where
          go : (o : Option Block) → find (meets s) (map block_of bs) ≡ o → presence (map block_of bs) s ≡ InPart
          go None e =
              let b = ok.block n x at in
              let meet = overlap_from x.section s (same_array x.section s m k stops starts) stops starts in
              absurd (true≢false (sym (ap (λ y. overlaps y s) b.section ∙ meet) ∙ none_passes (meets s) bs e x.number b.block b.is))
          go (Some y) e =
              let r = found_in (meets s) bs y e in
              is_part (map block_of bs) s y e (false_from_ne_true (is_inside s y.section) (outside r))
            where
              outside : (r : IsIn (meets s) bs y) → is_inside s y.section ≡ true → ⊥
              outside r h = by_number (r.number == x.number) refl
                where
                  section_is : r.kept.section ≡ y.section
                  section_is = ap (λ (z : Block). z.section) r.same

                  by_number : (t : Bool) → (r.number == x.number) ≡ t → ⊥
                  by_number true f =
                      let b = ok.block n x at in
                      let same = same_Some r.kept b.block (sym r.is ∙ ap (slice_get bs) (eqb-true r.number x.number f) ∙ b.is) in
                      true≢false (sym h ∙ ap (is_inside s) (sym section_is ∙ ap (λ (z : Kept). z.section) same ∙ b.section) ∙ i)
                  by_number false f =
                      beyond (apart r.number r.kept (eqb-false r.number x.number f) r.is)
                    where
                      beyond : (stop_of r.kept.section ≤ start_of s) ⊎ (stop_of x.section ≤ start_of r.kept.section) → ⊥
                      beyond (inl a) =
                          let p = overlap_parts y.section s r.passes in
                          let q = p.1 in
                          let e = ap stop_of section_is in
                          omega (arith, a, q, e)
                      beyond (inr a) =
                          let o = inside_order s y.section h in
                          let q = o.0 in
                          let e = ap start_of section_is in
                          omega (arith, a, q, e, starts)
