-- Where two turns conflict at a cell, and do not commute there, a touch of the one opposes a touch of the other.
use Rattle.std.proofs.Common.{◌≡◌, ℕ, ◌+◌, Bool, true, false, List, Some, refl, ap, subst, ◌∙◌, ⊎_elim, ◌⊎◌}
use Rattle.std.specs.Prelude.{not, ◌&&◌, ◌||◌}
use Rattle.std.proofs.lemmas.Bool.{both_ways, and_parts, not-true, or_cases, true_from_ne_false}
use Rattle.base.specs.declared.item.Cell.{Cell}
use Rattle.base.specs.declared.tree.CombineOp.{CombineOp}
use Rattle.base.specs.Footprint.{Touch, has_cell, reads, writes}
use Rattle.base.specs.Turns.{commute_at, operator_number, operators, touches_else, updates_by}
use Rattle.ranges.specs.Meetings.{meets_before}
use Rattle.ranges.specs.Ways.{kind_of, number_of, opposes, way_by}
use Rattle.ranges.proofs.WayTests.{IsIn, any_some, is_operator, not_opposed, opposes_else, some_any}
use Rattle.ranges.proofs.WayMeetings.{Opposed, conflict, opposed_meet, swapped, touches}

-- a touch of the cell
record IsTouch (xs : List Touch) (c : Cell) : Type 0 where
  touch : Touch
  inside : IsIn touch xs
  here : has_cell c touch ≡ true

touch_of : (xs : List Touch) (c : Cell) → touches xs c ≡ true → IsTouch xs c
touch_of xs c h =
    ⊎_elim (λ r. let t = any_some (λ u. not u.is_write && has_cell c u) xs r in
    record { touch = t.item; inside = t.inside; here = (and_parts (not t.item.is_write) (has_cell c t.item) t.holds).1 })
    (λ w. let t = any_some (λ u. u.is_write && has_cell c u) xs w in
    record { touch = t.item; inside = t.inside; here = (and_parts t.item.is_write (has_cell c t.item) t.holds).1 })
    (or_cases (reads xs c) (writes xs c) h)

-- some touch of the cell is no update by an operator by which another one is
pub else_opposes : (op : CombineOp) (xs ys : List Touch) (c : Cell) (t : Touch) → IsIn t ys → has_cell c t ≡ true →
    kind_of t ≡ 2 + operator_number op → touches_else op xs c ≡ true → Opposed xs ys c
else_opposes op xs ys c t i h number e =
    let u = any_some (λ u. not (updates_by op u) && has_cell c u) xs e in
    let there = and_parts (not (updates_by op u.item)) (has_cell c u.item) u.holds in
    record {
      first = u.item;
      in_first = u.inside;
      at_first = there.1;
      second = t;
      in_second = i;
      at_second = h;
      oppose = ap (opposes (kind_of u.item)) number
          ∙ opposes_else op u.item.combines u.item.is_write (not-true (updates_by op u.item) there.0);
    }

abbrev kind : Touch → Bool → ℕ
kind s w = number_of (way_by s.combines w)

kind_is : (s : Touch) (op : CombineOp) → s.combines ≡ Some op → kind_of s ≡ 2 + operator_number op
kind_is s op e = ap (λ o. number_of (way_by o s.is_write)) e

module _ (xs ys : List Touch) (c : Cell) (apart : commute_at xs ys c ≡ false) where
  one_else : (op : CombineOp) → (touches_else op xs c || touches_else op ys c) ≡ true
  one_else op = true_from_ne_false (touches_else op xs c || touches_else op ys c) (λ f.
      both_ways (commute_at xs ys c) apart
      (some_any (λ o. not (touches_else o xs c || touches_else o ys c)) operators op (is_operator op)
      (not_of (touches_else op xs c || touches_else op ys c) f)))
    where
      not_of : (b : Bool) → b ≡ false → not b ≡ true
      not_of b e = ap not e

  -- a write of the one, and a touch of the other
  written_opposes : (s t : Touch) → IsIn s xs → has_cell c s ≡ true → s.is_write ≡ true → IsIn t ys → has_cell c t ≡ true →
      Opposed xs ys c
  written_opposes s t i h w j k = go (opposes (kind_of s) (kind_of t)) refl
    where
      go : (b : Bool) → opposes (kind_of s) (kind_of t) ≡ b → Opposed xs ys c
      go true e =
          record {
            first = s;
            in_first = i;
            at_first = h;
            second = t;
            in_second = j;
            at_second = k;
            oppose = e;
          }
      go false e =
          let u = not_opposed s.combines (kind_of t) (subst (λ (v : Bool). opposes (kind s v) (kind_of t) ≡ false) w e) in
          ⊎_elim
          (λ a. else_opposes u.operator xs ys c t j k u.number a)
          (λ b. swapped xs ys c (else_opposes u.operator ys xs c s i h (kind_is s u.operator u.is) b))
          (or_cases (touches_else u.operator xs c) (touches_else u.operator ys c) (one_else u.operator))

pub conflict_meets : (xs ys : List Touch) (c : Cell) → conflict xs ys c ≡ true → Opposed xs ys c
conflict_meets xs ys c h =
    let a = and_parts (writes xs c) (touches ys c && not (commute_at xs ys c)) h in
    let b = and_parts (touches ys c) (not (commute_at xs ys c)) a.1 in
    let s = any_some (λ u. u.is_write && has_cell c u) xs a.0 in
    let at = and_parts s.item.is_write (has_cell c s.item) s.holds in
    let t = touch_of ys c b.0 in
    written_opposes xs ys c (not-true (commute_at xs ys c) b.1) s.item t.touch s.inside at.1 at.0 t.inside t.here

pub conflicts_meet : (xs ys : List Touch) (c : Cell) → (conflict xs ys c ≡ true) ⊎ (conflict ys xs c ≡ true) →
    meets_before xs ys c ≡ true
conflicts_meet xs ys c h =
    opposed_meet xs ys c (⊎_elim (conflict_meets xs ys c) (λ b. swapped xs ys c (conflict_meets ys xs c b)) h)
