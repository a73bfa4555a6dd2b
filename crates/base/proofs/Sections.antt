-- Cells of sections: what it says that a cell lies in a section, that a section lies inside another, and that two share
-- a cell.
-- The definitions tell it by tests of numbers; proofs cite these lemmas and see no number.
use Rattle.std.proofs.Common.{◌≡◌, ◌⊎◌, ◌+◌, ◌<◌, ◌≤◌, true, false, ◌==◌, refl, sym, ◌∙◌, inl, inr, arith}
use Rattle.std.specs.Prelude.{nat_lt, nat_le, max}
use Rattle.std.proofs.lemmas.Bool.{and_parts, and_from, eqb-true, eq-eqb, ltb-true, lt-ltb, leb-true, le-leb, cases_Bool}
use Rattle.base.specs.declared.item.Cell.{Cell}
use Rattle.base.specs.declared.item.Section.{Section}
use Rattle.base.specs.Memory.{is_in, is_inside, overlaps, same_section, end_of}

pub record IsIn (c : Cell) (s : Section) : Type 0 where
  pub array : c.array.0 ≡ s.array.0
  pub above : s.first ≤ c.index
  pub below : c.index < s.first + s.length

pub in_parts : (c : Cell) (s : Section) → is_in c s ≡ true → IsIn c s
in_parts c s h =
    let p = and_parts (c.array.0 == s.array.0) _ h in
    let q = and_parts (nat_le s.first c.index) _ p.1 in
    record {
      array = eqb-true c.array.0 s.array.0 p.0;
      above = leb-true s.first c.index q.0;
      below = ltb-true c.index (s.first + s.length) q.1;
    }

pub in_from : (c : Cell) (s : Section) → IsIn c s → is_in c s ≡ true
in_from c s h =
    and_from _ _ (eq-eqb c.array.0 s.array.0 h.array)
    (and_from _ _ (le-leb s.first c.index h.above) (lt-ltb c.index (s.first + s.length) h.below))

pub first_in : (s : Section) → 1 ≤ s.length → is_in (record { array = s.array; index = s.first }) s ≡ true
first_in s h = in_from (record { array = s.array; index = s.first }) s
    (record { array = refl; above = omega arith; below = omega arith })

pub record AreInside (s t : Section) : Type 0 where
  pub array : s.array.0 ≡ t.array.0
  pub first : t.first ≤ s.first
  pub end : s.first + s.length ≤ t.first + t.length

pub inside_parts : (s t : Section) → is_inside s t ≡ true → AreInside s t
inside_parts s t h =
    let p = and_parts (s.array.0 == t.array.0) _ h in
    let q = and_parts (nat_le t.first s.first) _ p.1 in
    record {
      array = eqb-true s.array.0 t.array.0 p.0;
      first = leb-true t.first s.first q.0;
      end = leb-true (s.first + s.length) (t.first + t.length) q.1;
    }

pub inside_in : (c : Cell) (s t : Section) → is_inside s t ≡ true → is_in c s ≡ true → is_in c t ≡ true
inside_in c s t h k =
    let p = inside_parts s t h in
    let q = in_parts c s k in
    in_from c t (record {
      array = q.array ∙ p.array;
      above = omega (arith, p.first, q.above);
      below = omega (arith, p.end, q.below);
    })

pub overlaps_from : (c : Cell) (s t : Section) → is_in c s ≡ true → is_in c t ≡ true → overlaps s t ≡ true
overlaps_from c s t h k =
    let p = in_parts c s h in
    let q = in_parts c t k in
    and_from _ _ (eq-eqb s.array.0 t.array.0 (sym p.array ∙ q.array))
    (and_from _ _ (lt-ltb s.first (t.first + t.length) (omega (arith, p.above, q.below)))
    (lt-ltb t.first (s.first + s.length) (omega (arith, q.above, p.below))))

pub common : (s t : Section) → 1 ≤ s.length → 1 ≤ t.length → overlaps s t ≡ true →
    (c : Cell) × (is_in c s ≡ true) × (is_in c t ≡ true)
common s t m n h =
    let p = and_parts (s.array.0 == t.array.0) _ h in
    let q = and_parts (nat_lt s.first (end_of t)) _ p.1 in
    let x = ltb-true s.first (t.first + t.length) q.0 in
    let y = ltb-true t.first (s.first + s.length) q.1 in
    let c : Cell = record { array = s.array; index = max s.first t.first } in (
      c,
      in_from c s (record { array = refl; above = omega arith; below = omega arith }),
      in_from c t
          (record { array = eqb-true s.array.0 t.array.0 p.0; above = omega arith; below = omega arith }),
    )

pub record AreSame (s t : Section) : Type 0 where
  pub array : s.array.0 ≡ t.array.0
  pub first : s.first ≡ t.first
  pub length : s.length ≡ t.length

pub same_parts : (s t : Section) → same_section s t ≡ true → AreSame s t
same_parts s t h =
    let p = and_parts (s.array.0 == t.array.0) _ h in
    let q = and_parts (s.first == t.first) _ p.1 in
    record {
      array = eqb-true s.array.0 t.array.0 p.0;
      first = eqb-true s.first t.first q.0;
      length = eqb-true s.length t.length q.1;
    }

pub same_self : (s : Section) → same_section s s ≡ true
same_self s = and_from _ _ (eq-eqb s.array.0 s.array.0 refl)
    (and_from _ _ (eq-eqb s.first s.first refl) (eq-eqb s.length s.length refl))

pub same_in : (c : Cell) (s t : Section) → same_section s t ≡ true → is_in c s ≡ is_in c t
same_in c s t h = go (cases_Bool (is_in c s)) (cases_Bool (is_in c t))
  where
    forth : is_in c s ≡ true → is_in c t ≡ true
    forth k =
        let p = same_parts s t h in
        let q = in_parts c s k in
        in_from c t
        (record {
          array = q.array ∙ p.array;
          above = omega (arith, q.above, p.first);
          below = omega (arith, q.below, p.first, p.length);
        })

    back : is_in c t ≡ true → is_in c s ≡ true
    back k =
        let p = same_parts s t h in
        let q = in_parts c t k in
        in_from c s (record {
          array = q.array ∙ sym p.array;
          above = omega (arith, q.above, p.first);
          below = omega (arith, q.below, p.first, p.length);
        })

    go : (is_in c s ≡ true) ⊎ (is_in c s ≡ false) → (is_in c t ≡ true) ⊎ (is_in c t ≡ false) → is_in c s ≡ is_in c t
    go (inl a) _ = a ∙ sym (forth a)
    go (inr a) (inl b) = back b ∙ sym b
    go (inr a) (inr b) = a ∙ sym b

pub inside_self : (s : Section) → is_inside s s ≡ true
inside_self s =
    and_from _ _ (eq-eqb s.array.0 s.array.0 refl)
    (and_from _ _ (le-leb s.first s.first (omega arith)) (le-leb (end_of s) (end_of s) (omega arith)))
