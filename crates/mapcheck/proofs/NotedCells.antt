-- Cells that were noted at their places.
use Rattle.std.proofs.Common.{◌≡◌, ℕ, ◌+◌, ◌<◌, ◌≤◌, Bool, true, false, sym, ◌∙◌, subst, inl, inr, ◌⊎◌, ⊎_elim, arith}
use Rattle.std.specs.Prelude.{◌&&◌, ◌==◌, nat_le, nat_lt}
use Rattle.std.proofs.lemmas.Bool.{cases_eq, cases_lt, and_from, and_parts, lt-ltb, ltb-true, le-leb, eq-eqb}
use Rattle.base.specs.declared.tree.ArrayId.{ArrayId}
use Rattle.base.specs.declared.item.Cell.{Cell}
use Rattle.base.specs.declared.item.Loc.{Loc}
use Rattle.base.specs.declared.item.Section.{Section}
use Rattle.base.specs.Items.{Plan}
use Rattle.base.specs.Memory.{is_in}
use Rattle.bits.specs.declared.set.BitSet.{BitSet}
use Rattle.bits.specs.Sets.{has as has_number}
use Rattle.ranges.specs.declared.cells.CellSet.{CellSet}
use Rattle.ranges.specs.Cells.{row_of as row_in, has as has_member}
use Rattle.mapcheck.specs.declared.noted.Noted.{Noted}
use Rattle.mapcheck.specs.declared.noted.Touch.{Touch}
use Rattle.mapcheck.specs.Noted.{AreSeen, Covers, IsClearAt, IsSeen, IsTouched, is_run, place_of, row_of}
use Rattle.mapcheck.specs.Segments.{is_from}
use Rattle.mapcheck.proofs.Noting.{place_inside, seen_both, seen_less, seen_none}

pub seen_at : (plan : Plan) (old new : Noted) (t : Touch) (cells : Cell → Bool) (r : ℕ) (places : ℕ → Bool) (clear : Bool) →
    AreSeen plan old new t.item t.writes r places clear → ((c : Cell) → cells c ≡ true → row_of t.loc c.array ≡ r) →
    ((c : Cell) → cells c ≡ true → places (place_of c) ≡ true) → IsSeen plan old new t.item (IsTouched t cells) clear
seen_at plan old new t cells r places clear h row inside = record {
  kept = h.kept;
  shown = λ w loc c is. subst (λ (v : Bool). Covers plan new (row_of loc c.array) (place_of c) t.item v) (sym is.0)
      (subst (λ (l : Loc). Covers plan new (row_of l c.array) (place_of c) t.item t.writes) (sym is.1)
      (subst (λ q. Covers plan new q (place_of c) t.item t.writes) (sym (row c is.2))
      (h.shown (place_of c) (place_inside c) (inside c is.2))));
  clear = λ e w loc c is. subst (λ (v : Bool). IsClearAt plan old t.item v (row_of loc c.array) (place_of c)) (sym is.0)
      (subst (λ (l : Loc). IsClearAt plan old t.item t.writes (row_of l c.array) (place_of c)) (sym is.1)
      (subst (λ q. IsClearAt plan old t.item t.writes q (place_of c)) (sym (row c is.2))
      (h.clear e (place_of c) (place_inside c) (inside c is.2))));
}

-- fewer cells
pub seen_fewer : (plan : Plan) (old new : Noted) (t : Touch) (more fewer : Cell → Bool) (clear : Bool) →
    IsSeen plan old new t.item (IsTouched t more) clear → ((c : Cell) → fewer c ≡ true → more c ≡ true) →
    IsSeen plan old new t.item (IsTouched t fewer) clear
seen_fewer plan old new t more fewer clear h sub =
    seen_less plan old new t.item (IsTouched t more) (IsTouched t fewer) clear h (λ w loc c is. (is.0, is.1, sub c is.2))

-- a section's cells are a run
pub section_run : (s : Section) (end : ℕ) → s.first + s.length ≡ end → (c : Cell) → is_in c s ≡ true →
    is_run s.array s.first end c ≡ true
section_run s end is c h = subst (λ n. is_run s.array s.first n c ≡ true) is h

has_from_zero : (row : BitSet) (i : ℕ) → has_number row i ≡ true → (nat_le 0 i && has_number row i) ≡ true
has_from_zero row i h = and_from (nat_le 0 i) (has_number row i) (le-leb 0 i (omega arith)) h

-- those of a row lie from its first one up to its end
pub row_run : (array : ArrayId) (row : BitSet) (first end : ℕ) →
    ((j : ℕ) → j < first → (nat_le 0 j && has_number row j) ≡ false) → ((i : ℕ) → has_number row i ≡ true → i < end) →
    (c : Cell) → ((c.array.0 == array.0) && has_number row c.index) ≡ true → is_run array first end c ≡ true
row_run array row first end before below c h =
    and_from (c.array.0 == array.0) (is_from first end c.index) both.0
    (and_from (nat_le first c.index) (nat_lt c.index end) (not_before (cases_lt c.index first))
    (lt-ltb c.index end (below c.index both.1)))
  where
    both : ((c.array.0 == array.0) ≡ true) × (has_number row c.index ≡ true)
    both = and_parts (c.array.0 == array.0) (has_number row c.index) h

    not_before : (c.index < first) ⊎ (first ≤ c.index) → nat_le first c.index ≡ true
    not_before (inl lt) =
        absurd (let bad : true ≡ false = sym (has_from_zero row c.index both.1) ∙ before c.index lt in cc)
    not_before (inr le) = le-leb first c.index le

pub no_row : (plan : Plan) (noted : Noted) (t : Touch) (array : ArrayId) (row : BitSet) →
    ((i : ℕ) → (nat_le 0 i && has_number row i) ≡ false) →
    IsSeen plan noted noted t.item (IsTouched t (λ c. (c.array.0 == array.0) && has_number row c.index)) true
no_row plan noted t array row none =
    seen_none plan noted t.item (IsTouched t (λ c. (c.array.0 == array.0) && has_number row c.index)) true
    (λ w loc c is. let both = and_parts (c.array.0 == array.0) (has_number row c.index) is.2 in
    let bad : true ≡ false = sym (has_from_zero row c.index both.1) ∙ none c.index in absurd cc)

-- ---- of a set

-- the cells of a set in the first arrays
abbrev pub is_below : CellSet → ℕ → Cell → Bool
is_below set a c = nat_lt c.array.0 a && has_member set c

pub array_more : (plan : Plan) (old between new : Noted) (t : Touch) (set : CellSet) (row : BitSet) (array : ArrayId) (a : ℕ) (x y : Bool) →
    array.0 ≡ a → row ≡ row_in set array.0 → IsSeen plan old between t.item (IsTouched t (is_below set a)) x →
    IsSeen plan between new t.item (IsTouched t (λ c. (c.array.0 == array.0) && has_number row c.index)) y →
    IsSeen plan old new t.item (IsTouched t (is_below set (a + 1))) (x && y)
array_more plan old between new t set row array a x y is row_is f s =
    seen_both plan old between new t.item (IsTouched t (is_below set a))
    (IsTouched t (λ c. (c.array.0 == array.0) && has_number row c.index)) (IsTouched t (is_below set (a + 1))) x y f s
    (λ w loc c there.
    let both = and_parts (nat_lt c.array.0 (a + 1)) (has_member set c) there.2 in
    let inside : c.array.0 < a + 1 = ltb-true c.array.0 (a + 1) both.0 in
    ⊎_elim
    (λ (e : c.array.0 ≡ array.0). inr (
      there.0,
      there.1,
      and_from (c.array.0 == array.0) (has_number row c.index) (eq-eqb c.array.0 array.0 e)
          (subst (λ r. has_number r c.index ≡ true) (sym row_is)
          (subst (λ n. has_number (row_in set n) c.index ≡ true) e both.1)),
    ))
    (λ (other : c.array.0 ≡ array.0 → ⊥). inl (
      there.0,
      there.1,
      and_from (nat_lt c.array.0 a) (has_member set c)
          (lt-ltb c.array.0 a (omega (arith, inside, is, other))) both.1,
    ))
    (cases_eq c.array.0 array.0))

pub none_yet : (plan : Plan) (noted : Noted) (t : Touch) (set : CellSet) →
    IsSeen plan noted noted t.item (IsTouched t (is_below set 0)) true
none_yet plan noted t set =
    seen_none plan noted t.item (IsTouched t (is_below set 0)) true
    (λ w loc c is. let lt = ltb-true c.array.0 0 (and_parts (nat_lt c.array.0 0) (has_member set c) is.2).0 in omega (arith, lt))

pub all_arrays : (plan : Plan) (old new : Noted) (t : Touch) (set : CellSet) (a n : ℕ) (clear : Bool) → n ≤ a →
    ((c : Cell) → n ≤ c.array.0 → has_member set c ≡ false) → IsSeen plan old new t.item (IsTouched t (is_below set a)) clear →
    IsSeen plan old new t.item (IsTouched t (has_member set)) clear
all_arrays plan old new t set a n clear le none h =
    seen_fewer plan old new t (is_below set a) (has_member set) clear h
    (λ c e. and_from (nat_lt c.array.0 a) (has_member set c)
    (⊎_elim (λ (lt : c.array.0 < a). lt-ltb c.array.0 a lt)
    (λ (past : a ≤ c.array.0). absurd (let bad : true ≡ false = sym e ∙ none c (omega (arith, le, past)) in cc))
    (cases_lt c.array.0 a)) e)
