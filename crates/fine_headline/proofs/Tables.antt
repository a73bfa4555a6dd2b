-- Two tables that are alike at the accesses of an item, with counts that differ by what other items rest, stay so as a
-- block is counted, created or removed in both; and what is not written keeps its value.
use Rattle.std.proofs.Common.{◌≡◌, ◌⊎◌, ℕ, ◌+◌, ◌-◌, ◌<◌, ◌≤◌, true, false, List, [], ◌∷◌, ◌++◌, map, Option, Some, None, refl, sym, ◌∙◌, ap, ap₂, inl, inr, arith, true≢false}
use Rattle.std.specs.Prelude.{option_map, find}
use Rattle.std.proofs.lemmas.Bool.{cases_Bool, cond-true, cond-false, false_from_ne_true}
use Rattle.base.specs.declared.item.Cell.{Cell}
use Rattle.base.specs.declared.item.Section.{Section}
use Rattle.base.specs.declared.item.MapItem.{MapItem}
use Rattle.base.specs.Actions.{Tab}
use Rattle.base.specs.Memory.{is_in, is_inside, same_section}
use Rattle.base.specs.Map.{Block, counted, without}
use Rattle.base.specs.Blocks.{AreApart, holder}
use Rattle.base.proofs.Blocks.{meets, find_yes, find_no, has, holder_absent, holder_inside, absent_from, inside_found, Holds, holds, holder_counted, holder_some, holder_none, holder_outside, holder_removed, counted_same, counted_other}
use Rattle.base.proofs.Sections.{first_in, inside_in, same_self, same_in}
use Rattle.two_memories.specs.Two.{less, one_inside}
use Rattle.two_memories.proofs.LikeMemories.{Access, touched, more, more_none, counted_more}

-- the entries of the first table are those of the second at what is touched, with counts higher by d
abbrev pub TableLike : (Section → ℕ) → Access → List Block → List Block → Type 0
TableLike d a xs ys = (c : Cell) → touched a Tab c ≡ true → holder xs c ≡ option_map (more d) (holder ys c)

it_is : (x y : Block) → ◌≡◌ {A = Option Block} (Some x) (Some y) → x ≡ y
it_is x y e = cc e

counts_up : (x y d w : ℕ) → x - (d + w) ≡ y - w → (w < y) ⊎ ((w ≡ 0) × (d ≡ 0)) → x ≡ y + d
counts_up x y d w e (inl lt) = omega arith
counts_up x y d w e (inr p) = let q = p.0 in let z = p.1 in omega arith

-- a count that is the same less what rests
pub stood : (rs rt d own : Section → ℕ) (p q : Option Block) → ((s : Section) → rs s ≡ d s + own s) →
    ((s : Section) → rt s ≡ own s) →
    ((b : Block) → q ≡ Some b → (own b.section < b.count) ⊎ ((own b.section ≡ 0) × (d b.section ≡ 0))) → option_map
    (less rs) p ≡ option_map (less rt) q → p ≡ option_map (more d) q
stood rs rt d own None None e f above h = refl
stood rs rt d own None (Some b) e f above h = absurd (cc h)
stood rs rt d own (Some a) None e f above h = absurd (cc h)
stood rs rt d own (Some a) (Some b) e f above h =
    let same : less rs a ≡ less rt b = it_is (less rs a) (less rt b) h in
    let section : a.section ≡ b.section = ap (λ (x : Block). x.section) same in
    let count : a.count - rs a.section ≡ b.count - rt b.section = ap (λ (x : Block). x.count) same in
    let up : a.count ≡ b.count + d b.section =
    counts_up a.count b.count (d b.section) (own b.section)
    (ap (λ k. a.count - k) (sym (e b.section)) ∙
    (ap (λ k. a.count - rs k) (sym section) ∙ (count ∙ ap (λ k. b.count - k) (f b.section)))) (above b refl) in
    ap₂ (λ x y. Some (record { section = x; count = y })) section up

abbrev pub first : Section → Cell
first s = record { array = s.array; index = s.first }

-- where a section lies in a block of the second table whose entries are touched
pub record LiesIn (a : Access) (ys : List Block) (s : Section) (b : Block) : Type 0 where
  pub size : 1 ≤ s.length
  pub found : find (meets s) ys ≡ Some b
  pub inside : is_inside s b.section ≡ true
  pub touched : (c : Cell) → is_in c b.section ≡ true → touched a Tab c ≡ true

module _ (d : Section → ℕ) (a : Access) (xs ys : List Block) (like : TableLike d a xs ys) (apart : AreApart xs)
    (apart' : AreApart ys) where
  module _ (s : Section) (b : Block) (h : LiesIn a ys s b) where
    held : holder ys (first s) ≡ Some b
    held = holder_inside ys s b (first s) h.found h.inside (first_in s h.size)

    there : Holds ys (first s) b
    there = holds ys (first s) b apart' held

    pub its : (c : Cell) → is_in c b.section ≡ true → holder xs c ≡ Some (more d b)
    its c i = like c (h.touched c i) ∙ ap (option_map (more d)) (there.whole c i)

    pub found_too : find (meets s) xs ≡ Some (more d b)
    found_too = inside_found xs s (more d b) apart h.size (λ c i. its c (inside_in c s b.section h.inside i))

    -- what counting makes of an entry
    data Recount (p : ℕ) (c : Cell) : Type 0 where
      nothing : holder xs c ≡ None → holder (map (counted b.section p) xs) c ≡ None → Recount p c
      itself : is_in c b.section ≡ true → holder xs c ≡ Some (more d b) →
          holder (map (counted b.section p) xs) c ≡ Some (record { section = b.section; count = p }) → Recount p c
      other : (x : Block) → is_in c b.section ≡ false → holder xs c ≡ Some x →
          holder (map (counted b.section p) xs) c ≡ Some x → (is_inside s x.section ≡ true → ⊥) → Recount p c

    recount : (p : ℕ) (c : Cell) → Recount p c
    recount p c = go (cases_Bool (is_in c b.section))
      where
        go : (is_in c b.section ≡ true) ⊎ (is_in c b.section ≡ false) → Recount p c
        go (inl i) =
            itself i (its c i)
            (holder_counted xs b.section p c ∙ (ap (option_map (counted b.section p)) (its c i) ∙ ap Some
            (counted_same b.section p (more d b) (same_self b.section))))
        go (inr i) = by (holder xs c) refl
          where
            apart_from : (x : Block) → holder xs c ≡ Some x → same_section x.section b.section ≡ false
            apart_from x o =
                false_from_ne_true _ (λ e. true≢false (sym (holds xs c x apart o).here ∙ (same_in c x.section b.section
                e ∙ i)))

            outside : (x : Block) → holder xs c ≡ Some x → is_inside s x.section ≡ true → ⊥
            outside x o j =
                let e : x ≡ more d b =
                it_is x (more d b) (sym ((holds xs c x apart o).whole (first s)
                (inside_in (first s) s x.section j (first_in s h.size))) ∙ its (first s)
                (inside_in (first s) s b.section h.inside (first_in s h.size))) in
                true≢false (sym (holds xs c x apart o).here ∙ (ap (λ (y : Block). is_in c y.section) e ∙ i))

            by : (o : Option Block) → holder xs c ≡ o → Recount p c
            by None o = nothing o (holder_counted xs b.section p c ∙ ap (option_map (counted b.section p)) o)
            by (Some x) o =
                other x i o (holder_counted xs b.section p c ∙
                (ap (option_map (counted b.section p)) o ∙ ap Some (counted_other b.section p x (apart_from x o))))
                (outside x o)

    -- counted in both, the tables stay alike
    pub counted_like : (p q : ℕ) → p ≡ q + d b.section →
        TableLike d a (map (counted b.section p) xs) (map (counted b.section q) ys)
    counted_like p q e c t =
        holder_counted xs b.section p c
        ∙ (ap (option_map (counted b.section p)) (like c t) ∙
        (counted_more d b.section p q e (holder ys c) ∙ ap (option_map (more d))
        (sym (holder_counted ys b.section q c))))

    abbrev inside_of : MapItem → Section → ℕ
    inside_of item x = one_inside x item

    -- a count that rises by one where the item rests
    pub counted_up : (item : MapItem) → item.section ≡ s → (p : ℕ) → p ≡ b.count + d b.section + 1 → (c : Cell) →
        holder (map (counted b.section p) xs) c ≡ option_map (more (inside_of item)) (holder xs c)
    counted_up item is p e c = go (recount p c)
      where
        one : one_inside b.section item ≡ 1
        one = cond-true (is_inside item.section b.section) 1 0 (ap (λ t. is_inside t b.section) is ∙ h.inside)

        go : Recount p c → holder (map (counted b.section p) xs) c ≡ option_map (more (inside_of item)) (holder xs c)
        go (nothing o f) = f ∙ sym (ap (option_map (more (inside_of item))) o)
        go (itself i o f) =
            f ∙ (ap (λ k. Some (record { section = b.section; count = k }))
            (e ∙ ap (λ k. b.count + d b.section + k) (sym one)) ∙ sym (ap (option_map (more (inside_of item))) o))
        go (other x i o f out) =
            let no : one_inside x.section item ≡ 0 = cond-false (is_inside item.section x.section) 1 0
            (false_from_ne_true _ (λ j. out (ap (λ t. is_inside t x.section) (sym is) ∙ j))) in
            f ∙ (sym (more_none (Some x)) ∙ (ap (λ k. Some (record { section = x.section; count = x.count + k }))
            (sym no) ∙ sym (ap (option_map (more (inside_of item))) o)))

    -- and one that falls by one
    pub counted_down : (item : MapItem) → item.section ≡ s → (p : ℕ) → p + 1 ≡ b.count + d b.section → (c : Cell) →
        holder xs c ≡ option_map (more (inside_of item)) (holder (map (counted b.section p) xs) c)
    counted_down item is p e c = go (recount p c)
      where
        one : one_inside b.section item ≡ 1
        one = cond-true (is_inside item.section b.section) 1 0 (ap (λ t. is_inside t b.section) is ∙ h.inside)

        go : Recount p c → holder xs c ≡ option_map (more (inside_of item)) (holder (map (counted b.section p) xs) c)
        go (nothing o f) = o ∙ sym (ap (option_map (more (inside_of item))) f)
        go (itself i o f) =
            o ∙ (ap (λ k. Some (record { section = b.section; count = k })) (sym e ∙ ap (λ k. p + k) (sym one)) ∙ sym
            (ap (option_map (more (inside_of item))) f))
        go (other x i o f out) =
            let no : one_inside x.section item ≡ 0 = cond-false (is_inside item.section x.section) 1 0
            (false_from_ne_true _ (λ j. out (ap (λ t. is_inside t x.section) (sym is) ∙ j))) in
            o ∙ (sym (more_none (Some x)) ∙ (ap (λ k. Some (record { section = x.section; count = x.count + k }))
            (sym no) ∙ sym (ap (option_map (more (inside_of item))) f)))

    -- elsewhere a count is as it was
    pub counted_outside : (p : ℕ) (c : Cell) → is_in c b.section ≡ false →
        holder (map (counted b.section p) xs) c ≡ holder xs c
    counted_outside p c out = go (recount p c)
      where
        go : Recount p c → holder (map (counted b.section p) xs) c ≡ holder xs c
        go (nothing o f) = f ∙ sym o
        go (itself i o f) = absurd (true≢false (sym i ∙ out))
        go (other x i o f _) = f ∙ sym o

    -- a block that is removed from both
    pub removed_like : TableLike d a (without xs b.section) (without ys b.section)
    removed_like c t = go (cases_Bool (is_in c b.section))
      where
        go : (is_in c b.section ≡ true) ⊎ (is_in c b.section ≡ false) →
            holder (without xs b.section) c ≡ option_map (more d) (holder (without ys b.section) c)
        go (inl i) =
            holder_removed xs b.section c (more d b) apart (its c i) (same_self b.section)
            ∙ ap (option_map (more d))
            (sym (holder_removed ys b.section c b apart' (there.whole c i) (same_self b.section)))
        go (inr i) =
            holder_outside xs b.section c i ∙ (like c t ∙ ap (option_map (more d))
            (sym (holder_outside ys b.section c i)))

  -- The section is absent.

  module _ (s : Section) (size : 1 ≤ s.length) (absent : find (meets s) ys ≡ None)
      (table : (c : Cell) → is_in c s ≡ true → touched a Tab c ≡ true) where
    abbrev new : Block
    new = record { section = s; count = 1 }

    empty : (c : Cell) → is_in c s ≡ true → holder xs c ≡ None
    empty c i = like c (table c i) ∙ ap (option_map (more d)) (holder_absent ys s c absent i)

    pub absent_too : find (meets s) xs ≡ None
    absent_too = absent_from xs s apart size empty

    pub created_like : d s ≡ 0 →
        TableLike d a (xs ++ record { section = s; count = 1 } ∷ []) (ys ++ record { section = s; count = 1 } ∷ [])
    created_like quiet c t = go (holder ys c) refl
      where
        alone : (has c new ≡ true) ⊎ (has c new ≡ false) →
            holder (new ∷ []) c ≡ option_map (more d) (holder (new ∷ []) c)
        alone (inl i) =
            find_yes (has c) new [] i ∙ (ap (λ x. Some (record { section = s; count = 1 + x })) (sym quiet) ∙ ap
            (option_map (more d)) (sym (find_yes (has c) new [] i)))
        alone (inr i) = find_no (has c) new [] i ∙ ap (option_map (more d)) (sym (find_no (has c) new [] i))

        go : (o : Option Block) → holder ys c ≡ o →
            holder (xs ++ new ∷ []) c ≡ option_map (more d) (holder (ys ++ new ∷ []) c)
        go None o =
            holder_none xs new c (like c t ∙ ap (option_map (more d)) o) ∙
            (alone (cases_Bool (has c new)) ∙ ap (option_map (more d)) (sym (holder_none ys new c o)))
        go (Some b) o =
            holder_some xs new c (more d b) (like c t ∙ ap (option_map (more d)) o) ∙ ap (option_map (more d))
            (sym (holder_some ys new c b o))

    pub created_outside : (c : Cell) → is_in c s ≡ false →
        holder (xs ++ record { section = s; count = 1 } ∷ []) c ≡ holder xs c
    created_outside c out = go (holder xs c) refl
      where
        go : (o : Option Block) → holder xs c ≡ o → holder (xs ++ new ∷ []) c ≡ holder xs c
        go None o = holder_none xs new c o ∙ (find_no (has c) new [] out ∙ sym o)
        go (Some b) o = holder_some xs new c b o ∙ sym o
