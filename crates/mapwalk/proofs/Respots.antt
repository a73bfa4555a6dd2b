-- Blocks in order that are created, counted and removed.
use Rattle.std.proofs.Common.{◌≡◌, ◌≢◌, ℕ, not, ap₂, zero, suc, ◌-◌, ◌<◌, ◌≤◌, ◌==◌, Bool, true, false, List, [], ◌∷◌, ◌++◌, get_or, length, map, Option, Some, None, refl, sym, ap, ◌∙◌, subst, length-append, arith}
use Rattle.std.specs.Prelude.{insert, nat_lt, option_map, remove, slice_get, slice_set, if◌then◌else◌}
use Rattle.std.proofs.lemmas.Bool.{cond-false, cond-true, eqb-true, eqb-false, false_from_ne_true, lt-ltb, ltb-false, ltb-true}
use Rattle.std.proofs.lemmas.List.{length-set}
use Rattle.std.proofs.lemmas.Option.{same_Some, slice_get-get_or, slice_get-map, slice_get_within}
use Rattle.base.specs.declared.item.Section.{Section}
use Rattle.base.specs.Map.{Block, counted, without}
use Rattle.base.specs.Memory.{same_section}
use Rattle.base.proofs.Blocks.{counted_other, counted_same}
use Rattle.base.proofs.Places.{get_left, get_right, get_set_other, get_set_same}
use Rattle.mapwalk.specs.declared.blocks.Block.{Block as Kept}
use Rattle.mapwalk.specs.declared.spots.Spot.{Spot}
use Rattle.mapwalk.specs.Blocks.{block_of}
use Rattle.mapwalk.specs.Counts.{CountUpTo}
use Rattle.mapwalk.specs.Spots.{HasBlock, HasSpot, IsAbsentAt, IsOrder, lower, start_of, stop_of}

-- What stands in a list with one more, and one less.

module _ {A : Type 0} where
  insert_before : (xs : List A) (n : ℕ) (y : A) (k : ℕ) → k < n → n ≤ length xs → slice_get (insert xs n y) k ≡ slice_get xs k
  insert_before xs zero y k l h = absurd (omega arith)
  insert_before [] (suc n) y k l h = absurd (omega arith)
  insert_before (x ∷ xs) (suc n) y zero l h = refl
  insert_before (x ∷ xs) (suc n) y (suc k) l h = insert_before xs n y k (omega arith) (omega arith)

  insert_here : (xs : List A) (n : ℕ) (y : A) → n ≤ length xs → slice_get (insert xs n y) n ≡ Some y
  insert_here xs zero y h = refl
  insert_here [] (suc n) y h = absurd (omega arith)
  insert_here (x ∷ xs) (suc n) y h = insert_here xs n y (omega arith)

  insert_after : (xs : List A) (n : ℕ) (y : A) (k : ℕ) → n ≤ k → n ≤ length xs → slice_get (insert xs n y) (suc k) ≡ slice_get xs k
  insert_after xs zero y k l h = refl
  insert_after [] (suc n) y k l h = absurd (omega arith)
  insert_after (x ∷ xs) (suc n) y zero l h = absurd (omega arith)
  insert_after (x ∷ xs) (suc n) y (suc k) l h = insert_after xs n y k (omega arith) (omega arith)

  pub data Inserted (xs : List A) (n : ℕ) (y : A) (k : ℕ) (z : A) : Type 0 where
    Before : (l : k < n) (e : slice_get xs k ≡ Some z) → Inserted xs n y k z
    Here : (l : k ≡ n) (e : y ≡ z) → Inserted xs n y k z
    After : (j : ℕ) (l : n ≤ j) (s : k ≡ suc j) (e : slice_get xs j ≡ Some z) → Inserted xs n y k z

  inserted : (xs : List A) (n : ℕ) (y : A) (k : ℕ) (z : A) → n ≤ length xs → slice_get (insert xs n y) k ≡ Some z →
      Inserted xs n y k z
  inserted xs n y k z h e = go (nat_lt k n) refl (k == n) refl
    where
      past : (k : ℕ) → n < k → slice_get (insert xs n y) k ≡ Some z → Inserted xs n y k z
      past zero l e = absurd (omega arith)
      past (suc j) l e = After j (omega arith) refl (sym (insert_after xs n y j (omega arith) h) ∙ e)

      go : (t : Bool) → nat_lt k n ≡ t → (u : Bool) → (k == n) ≡ u → Inserted xs n y k z
      go true l u f = Before (ltb-true k n l) (sym (insert_before xs n y k (ltb-true k n l) h) ∙ e)
      go false l true f =
          let same = eqb-true k n f in
          Here same (same_Some y z (sym (insert_here xs n y h) ∙ ap (slice_get (insert xs n y)) (sym same) ∙ e))
      go false l false f = past k (let a = ltb-false k n l in let b = eqb-false k n f in omega (arith, a, b)) e

  remove_before : (xs : List A) (n k : ℕ) → k < n → slice_get (remove xs n) k ≡ slice_get xs k
  remove_before xs zero k l = absurd (omega arith)
  remove_before [] (suc n) k l = refl
  remove_before (x ∷ xs) (suc n) zero l = refl
  remove_before (x ∷ xs) (suc n) (suc k) l = remove_before xs n k (omega arith)

  remove_after : (xs : List A) (n k : ℕ) → n ≤ k → n < length xs → slice_get (remove xs n) k ≡ slice_get xs (suc k)
  remove_after [] n k l h = absurd (omega arith)
  remove_after (x ∷ xs) zero k l h = refl
  remove_after (x ∷ xs) (suc n) zero l h = absurd (omega arith)
  remove_after (x ∷ xs) (suc n) (suc k) l h = remove_after xs n k (omega arith) (omega arith)

  -- where it stood before
  pub record Stood (xs : List A) (n k : ℕ) (z : A) : Type 0 where
    pub at : ℕ
    pub is : slice_get xs at ≡ Some z
    pub other : at ≢ n
    pub before : at < n → k ≡ at
    pub after : n < at → suc k ≡ at

  stood : (xs : List A) (n k : ℕ) (z : A) → n < length xs → slice_get (remove xs n) k ≡ Some z → Stood xs n k z
  stood xs n k z h e = go (nat_lt k n) refl
    where
      go : (t : Bool) → nat_lt k n ≡ t → Stood xs n k z
      go true l =
          let a = ltb-true k n l in
          record {
            at = k;
            is = sym (remove_before xs n k a) ∙ e;
            other = λ s. (omega (arith, a, s));
            before = λ b. refl;
            after = λ b. absurd (omega (arith, a, b));
          }
      go false l =
          let a = ltb-false k n l in
          record {
            at = suc k;
            is = sym (remove_after xs n k a h) ∙ e;
            other = λ s. (omega (arith, a, s));
            before = λ b. absurd (omega (arith, a, b));
            after = λ b. refl;
          }

-- A block is created.

module _ (bs : List Kept) (spots : List Spot) (ok : IsOrder bs spots) (i : ℕ) (b : Kept)
    (absent : IsAbsentAt bs spots b.section i) where
  abbrev new : Spot
  new = record { section = b.section; number = length bs }

  created_order : (j k : ℕ) (x y : Spot) → j < k → Inserted spots i new j x → Inserted spots i new k y →
      stop_of x.section ≤ start_of y.section
  created_order j k x y l (Before m e) (Before n f) = ok.in_order j k x y l e f
  created_order j k x y l (Before m e) (Here n f) =
      subst (λ (z : Spot). stop_of x.section ≤ start_of z.section) f (absent.before j x m e)
  created_order j k x y l (Before m e) (After k' n s f) = ok.in_order j k' x y (omega arith) e f
  created_order j k x y l (Here m e) (Before n f) = absurd (omega arith)
  created_order j k x y l (Here m e) (Here n f) = absurd (omega arith)
  created_order j k x y l (Here m e) (After k' n s f) =
      subst (λ (z : Spot). stop_of z.section ≤ start_of y.section) e (absent.after k' y n f)
  created_order j k x y l (After j' m s e) (Before n f) = absurd (omega arith)
  created_order j k x y l (After j' m s e) (Here n f) = absurd (omega arith)
  created_order j k x y l (After j' m s e) (After k' n t f) = ok.in_order j' k' x y (omega arith) e f

  kept_block : (x : Spot) → HasBlock bs x → HasBlock (bs ++ b ∷ []) x
  kept_block x h = record {
    block = h.block;
    is = get_left bs (b ∷ []) x.number (slice_get_within bs x.number h.block h.is) ∙ h.is;
    section = h.section;
  }

  created_block : (k : ℕ) (x : Spot) → Inserted spots i new k x → HasBlock (bs ++ b ∷ []) x
  created_block k x (Before l e) = kept_block x (ok.block k x e)
  created_block k x (Here l e) = subst (HasBlock (bs ++ b ∷ [])) e (record {
    block = b;
    is = get_right bs (b ∷ []) (length bs) (omega arith) ∙ ap (slice_get (b ∷ [])) none;
    section = refl;
  })
    where
      none : length bs - length bs ≡ 0
      none = omega arith
  created_block k x (After j l s e) = kept_block x (ok.block j x e)

  created_spot : (n : ℕ) (c : Kept) → slice_get (bs ++ b ∷ []) n ≡ Some c → HasSpot (insert spots i new) n
  created_spot n c e = go (nat_lt n (length bs)) refl
    where
      moved : HasSpot spots n → HasSpot (insert spots i new) n
      moved h = by_place (nat_lt h.place i) refl
        where
          by_place : (t : Bool) → nat_lt h.place i ≡ t → HasSpot (insert spots i new) n
          by_place true l = record {
            place = h.place;
            spot = h.spot;
            is = insert_before spots i new h.place (ltb-true h.place i l) absent.bound ∙ h.is;
            number = h.number;
          }
          by_place false l = record {
            place = suc h.place;
            spot = h.spot;
            is = insert_after spots i new h.place (ltb-false h.place i l) absent.bound ∙ h.is;
            number = h.number;
          }

      go : (t : Bool) → nat_lt n (length bs) ≡ t → HasSpot (insert spots i new) n
      go true l = moved (ok.spot n c (sym (get_left bs (b ∷ []) n (ltb-true n (length bs) l)) ∙ e))
      go false l =
          let a = ltb-false n (length bs) l in
          let m = slice_get_within (bs ++ b ∷ []) n c e in
          let long = length-append bs (b ∷ []) in
          record {
            place = i;
            spot = new;
            is = insert_here spots i new absent.bound;
            number = omega (arith, a, m, long);
          }

  pub created : IsOrder (bs ++ b ∷ []) (insert spots i new)
  created = record {
    in_order = λ j k x y l e f. created_order j k x y l (inserted spots i new j x absent.bound e) (inserted spots i new k y absent.bound f);
    block = λ k x e. created_block k x (inserted spots i new k x absent.bound e);
    spot = created_spot;
  }

-- A block gets another count.

module _ (bs : List Kept) (spots : List Spot) (ok : IsOrder bs spots) (at : ℕ) (b after : Kept) (there : slice_get bs at ≡ Some b)
    (same : after.section ≡ b.section) where
  recounted_block : (k : ℕ) (x : Spot) → slice_get spots k ≡ Some x → HasBlock (slice_set bs at after) x
  recounted_block k x e = go (x.number == at) refl
    where
      h : HasBlock bs x
      h = ok.block k x e

      go : (t : Bool) → (x.number == at) ≡ t → HasBlock (slice_set bs at after) x
      go true f =
          let is = eqb-true x.number at f in
          let old = same_Some h.block b (sym h.is ∙ ap (slice_get bs) is ∙ there) in
          record {
            block = after;
            is = ap (slice_get (slice_set bs at after)) is ∙ get_set_same bs at after (slice_get_within bs at b there);
            section = same ∙ ap (λ (y : Kept). y.section) (sym old) ∙ h.section;
          }
      go false f = record {
        block = h.block;
        is = get_set_other bs at after x.number (λ e. eqb-false x.number at f (sym e)) ∙ h.is;
        section = h.section;
      }

  pub recounted_order : IsOrder (slice_set bs at after) spots
  recounted_order = record {
    in_order = ok.in_order;
    block = recounted_block;
    spot = λ n c e. (let l = slice_get_within (slice_set bs at after) n c e in
        let m = length-set bs at after in
        ok.spot n (get_or bs n c) (slice_get-get_or bs n c (omega (arith, l, m))));
  }

module _ (s : Section) (n : ℕ) where
  none_counted : (bs : List Kept) → ((k : ℕ) (c : Kept) → slice_get bs k ≡ Some c → same_section c.section s ≡ false) →
      map block_of bs ≡ map (counted s n) (map block_of bs)
  none_counted [] h = refl
  none_counted (c ∷ bs) h = ap₂ ◌∷◌ (sym (counted_other s n (block_of c) (h zero c refl))) (none_counted bs (λ k x e. h (suc k) x e))

  pub one_counted : (bs : List Kept) (at : ℕ) (b : Kept) → slice_get bs at ≡ Some b → same_section b.section s ≡ true →
      ((k : ℕ) (c : Kept) → k ≢ at → slice_get bs k ≡ Some c → same_section c.section s ≡ false) →
      map block_of (slice_set bs at (record { section = s; count = n })) ≡ map (counted s n) (map block_of bs)
  one_counted [] at b e i h = absurd (cc e)
  one_counted (c ∷ bs) zero b e i h =
      ap₂ ◌∷◌ (sym (counted_same s n (block_of c) (ap (λ (x : Kept). same_section x.section s) (same_Some c b e) ∙ i)))
      (none_counted bs (λ k x f. h (suc k) x (λ z. absurd (omega (arith, z))) f))
  one_counted (c ∷ bs) (suc at) b e i h =
      ap₂ ◌∷◌ (sym (counted_other s n (block_of c) (h zero c (λ z. absurd (omega (arith, z))) refl)))
      (one_counted bs at b e i (λ k x o f. h (suc k) x (λ z. o (omega (arith, z))) f))

-- A block is removed.

module _ (s : Section) where
  without_other : (b : Block) (bs : List Block) → same_section b.section s ≡ false → without (b ∷ bs) s ≡ b ∷ without bs s
  without_other b bs e = cond-true (not (same_section b.section s)) _ _ (ap not e)

  without_same : (b : Block) (bs : List Block) → same_section b.section s ≡ true → without (b ∷ bs) s ≡ without bs s
  without_same b bs e = cond-false (not (same_section b.section s)) _ _ (ap not e)

  none_without : (bs : List Kept) → ((k : ℕ) (c : Kept) → slice_get bs k ≡ Some c → same_section c.section s ≡ false) →
      map block_of bs ≡ without (map block_of bs) s
  none_without [] h = refl
  none_without (c ∷ bs) h =
      ap (λ xs. block_of c ∷ xs) (none_without bs (λ k x e. h (suc k) x e))
      ∙ sym (without_other (block_of c) (map block_of bs) (h zero c refl))

  pub one_without : (bs : List Kept) (at : ℕ) (b : Kept) → slice_get bs at ≡ Some b → same_section b.section s ≡ true →
      ((k : ℕ) (c : Kept) → k ≢ at → slice_get bs k ≡ Some c → same_section c.section s ≡ false) →
      map block_of (remove bs at) ≡ without (map block_of bs) s
  one_without [] at b e i h = absurd (cc e)
  one_without (c ∷ bs) zero b e i h =
      none_without bs (λ k x f. h (suc k) x (λ z. absurd (omega (arith, z))) f)
      ∙ sym (without_same (block_of c) (map block_of bs) (ap (λ (x : Kept). same_section x.section s) (same_Some c b e) ∙ i))
  one_without (c ∷ bs) (suc at) b e i h =
      ap (λ xs. block_of c ∷ xs) (one_without bs at b e i (λ k x o f. h (suc k) x (λ z. o (omega (arith, z))) f))
      ∙ sym (without_other (block_of c) (map block_of bs) (h zero c (λ z. absurd (omega (arith, z))) refl))

lower_section : (n : ℕ) (x : Spot) → (lower n x).section ≡ x.section
lower_section n x = go (nat_lt n x.number)
  where
    go : (t : Bool) → (if t then record { section = x.section; number = x.number - 1 } else x).section ≡ x.section
    go true = refl
    go false = refl

lower_past : (n : ℕ) (x : Spot) → n < x.number → (lower n x).number ≡ x.number - 1
lower_past n x l = ap (λ (y : Spot). y.number) (cond-true (nat_lt n x.number) _ _ (lt-ltb n x.number l))

lower_below : (n : ℕ) (x : Spot) → x.number ≤ n → (lower n x).number ≡ x.number
lower_below n x l =
    ap (λ (y : Spot). y.number)
    (cond-false (nat_lt n x.number) _ _ (false_from_ne_true (nat_lt n x.number) (λ e. (let m = ltb-true n x.number e in omega (arith, l, m)))))

module _ (bs : List Kept) (spots : List Spot) (ok : IsOrder bs spots) (i : ℕ) (x : Spot) (at : slice_get spots i ≡ Some x)
    (some : start_of x.section < stop_of x.section) where
  inside : x.number < length bs
  inside = let h = ok.block i x at in slice_get_within bs x.number h.block h.is

  in_spots : i < length spots
  in_spots = slice_get_within spots i x at

  -- no other spot has its number
  alone : (k : ℕ) (y : Spot) → k ≢ i → slice_get spots k ≡ Some y → y.number ≢ x.number
  alone k y other e same = go (nat_lt k i) refl
    where
      sections : y.section ≡ x.section
      sections =
          let h = ok.block i x at in
          let g = ok.block k y e in
          sym g.section ∙ ap (λ (z : Kept). z.section) (same_Some g.block h.block (sym g.is ∙ ap (slice_get bs) same ∙ h.is)) ∙ h.section

      go : (t : Bool) → nat_lt k i ≡ t → ⊥
      go true l =
          let o = ok.in_order k i y x (ltb-true k i l) e at in
          let s = ap stop_of sections in
          omega (arith, o, s, some)
      go false l =
          let a = ltb-false k i l in
          let o = ok.in_order i k x y (omega (arith, a, other)) at e in
          let s = ap start_of sections in
          omega (arith, o, s, some)

  dropped_at : (k : ℕ) (y : Spot) → slice_get (map (lower x.number) (remove spots i)) k ≡ Some y →
      (z : Spot) × (Stood spots i k z) × (lower x.number z ≡ y)
  dropped_at k y e = go (slice_get (remove spots i) k) refl
    where
      go : (o : Option Spot) → slice_get (remove spots i) k ≡ o →
          (z : Spot) × (Stood spots i k z) × (lower x.number z ≡ y)
      go None f = absurd (cc (sym (slice_get-map (lower x.number) (remove spots i) k ∙ ap (option_map (lower x.number)) f) ∙ e))
      go (Some z) f = (
        z,
        stood spots i k z in_spots f,
        same_Some (lower x.number z) y (sym (slice_get-map (lower x.number) (remove spots i) k ∙ ap (option_map (lower x.number)) f) ∙ e),
      )

  dropped_order : (j k : ℕ) (y z : Spot) → j < k → slice_get (map (lower x.number) (remove spots i)) j ≡ Some y →
      slice_get (map (lower x.number) (remove spots i)) k ≡ Some z → stop_of y.section ≤ start_of z.section
  dropped_order j k y z l e f =
      let p = dropped_at j y e in
      let q = dropped_at k z f in
      let o = ok.in_order p.1.at q.1.at p.0 q.0 (further p.1 q.1) p.1.is q.1.is in
      let m = ap stop_of (sym (lower_section x.number p.0) ∙ ap (λ (u : Spot). u.section) p.2) in
      let n = ap start_of (sym (lower_section x.number q.0) ∙ ap (λ (u : Spot). u.section) q.2) in
      omega (arith, o, m, n)
    where
      further : {u v : Spot} → (p : Stood spots i j u) → (q : Stood spots i k v) → p.at < q.at
      further p q = grind (arith, l, p.other, p.before, p.after, q.other, q.before, q.after)

  dropped_block : (k : ℕ) (y : Spot) → slice_get (map (lower x.number) (remove spots i)) k ≡ Some y → HasBlock (remove bs x.number) y
  dropped_block k y e = go (dropped_at k y e)
    where
      go : (z : Spot) × (Stood spots i k z) × (lower x.number z ≡ y) → HasBlock (remove bs x.number) y
      go p = subst (HasBlock (remove bs x.number)) p.2 (by_number (nat_lt x.number z.number) refl)
        where
          z : Spot
          z = p.0

          h : HasBlock bs z
          h = ok.block p.1.at z p.1.is

          by_number : (t : Bool) → nat_lt x.number z.number ≡ t → HasBlock (remove bs x.number) (lower x.number z)
          by_number true l =
              let m = ltb-true x.number z.number l in
              let next : suc (z.number - 1) ≡ z.number = omega (arith, m) in
              record {
                block = h.block;
                is = ap (slice_get (remove bs x.number)) (lower_past x.number z m)
                    ∙ remove_after bs x.number (z.number - 1) (omega (arith, m)) inside
                    ∙ ap (slice_get bs) next ∙ h.is;
                section = h.section ∙ sym (lower_section x.number z);
              }
          by_number false l =
              let m = ltb-false x.number z.number l in
              let other = alone p.1.at z p.1.other p.1.is in
              record {
                block = h.block;
                is = ap (slice_get (remove bs x.number)) (lower_below x.number z m)
                    ∙ remove_before bs x.number z.number (omega (arith, m, other)) ∙ h.is;
                section = h.section ∙ sym (lower_section x.number z);
              }

  dropped_spot : (n : ℕ) (c : Kept) → slice_get (remove bs x.number) n ≡ Some c →
      HasSpot (map (lower x.number) (remove spots i)) n
  dropped_spot n c e = go (ok.spot old.at c old.is)
    where
      old : Stood bs x.number n c
      old = stood bs x.number n c inside e

      go : HasSpot spots old.at → HasSpot (map (lower x.number) (remove spots i)) n
      go h = record {
        place = new_place;
        spot = lower x.number h.spot;
        is = slice_get-map (lower x.number) (remove spots i) new_place ∙ ap (option_map (lower x.number)) found;
        number = number_is (nat_lt x.number h.spot.number) refl;
      }
        where
          other : h.place ≢ i
          other p = old.other (sym h.number ∙ ap (λ (y : Spot). y.number) (same_Some h.spot x (sym h.is ∙ ap (slice_get spots) p ∙ at)))

          new_place : ℕ
          new_place = if nat_lt h.place i then h.place else h.place - 1

          found : slice_get (remove spots i) new_place ≡ Some h.spot
          found = by_place (nat_lt h.place i) refl
            where
              by_place : (t : Bool) → nat_lt h.place i ≡ t →
                  slice_get (remove spots i) (if t then h.place else h.place - 1) ≡ Some h.spot
              by_place true l = remove_before spots i h.place (ltb-true h.place i l) ∙ h.is
              by_place false l =
                  let a = ltb-false h.place i l in
                  let next : suc (h.place - 1) ≡ h.place = omega (arith, a, other) in
                  remove_after spots i (h.place - 1) (omega (arith, a, other)) in_spots ∙ ap (slice_get spots) next ∙ h.is

          number_is : (t : Bool) → nat_lt x.number h.spot.number ≡ t → (lower x.number h.spot).number ≡ n
          number_is true l =
              let m = ltb-true x.number h.spot.number l in
              let e = h.number in
              let after = old.after (omega (arith, m, e)) in
              lower_past x.number h.spot m ∙ omega (arith, after, e, m)
          number_is false l =
              let m = ltb-false x.number h.spot.number l in
              let e = h.number in
              let o = old.other in
              let before = old.before (omega (arith, m, e, o)) in
              lower_below x.number h.spot m ∙ e ∙ sym before

  pub dropped : IsOrder (remove bs x.number) (map (lower x.number) (remove spots i))
  dropped = record { in_order = dropped_order; block = dropped_block; spot = dropped_spot }

pub fewer_up_to : (top : ℕ) (bs : List Kept) (n : ℕ) → n < length bs → CountUpTo top bs → CountUpTo top (remove bs n)
fewer_up_to top bs n l all k b e = let o = stood bs n k b l e in all o.at b o.is

pub recounted_up_to : (top : ℕ) (bs : List Kept) (n : ℕ) (b : Kept) → n < length bs → b.count ≤ top → CountUpTo top bs →
    CountUpTo top (slice_set bs n b)
recounted_up_to top bs n b l low all k c e = go (k == n) refl
  where
    go : (t : Bool) → (k == n) ≡ t → c.count ≤ top
    go true f =
        let is = ap (λ (x : Kept). x.count) (same_Some b c (sym (get_set_same bs n b l) ∙ ap (slice_get (slice_set bs n b)) (sym (eqb-true k n f)) ∙ e)) in
        omega (arith, is, low)
    go false f = all k c (sym (get_set_other bs n b k (λ z. eqb-false k n f (sym z))) ∙ e)
