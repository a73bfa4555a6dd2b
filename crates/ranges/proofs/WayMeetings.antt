-- Two turns conflict at a cell, and do not commute there, just where a touch of the one opposes a touch of the other.
use Rattle.std.proofs.Common.{◌≡◌, Bool, true, false, List, refl, sym, ◌∙◌, ⊎_elim, ◌⊎◌, inl, inr}
use Rattle.std.specs.Prelude.{not, ◌&&◌, ◌||◌}
use Rattle.std.proofs.lemmas.Bool.{true≢false, both_ways, and_from, and_parts, not_from_true, not_from_false, or_cases, or_left, or_parts, or_right, true_from_ne_false}
use Rattle.base.specs.declared.item.Cell.{Cell}
use Rattle.base.specs.declared.tree.CombineOp.{CombineOp}
use Rattle.base.specs.Footprint.{Touch, has_cell, reads, writes}
use Rattle.base.specs.Turns.{commute_at, marked_by, operators, touches_else, updates_by}
use Rattle.ranges.specs.Meetings.{meets_before, touched_before}
use Rattle.ranges.specs.Ways.{kind_of, opposes}
use Rattle.ranges.proofs.UpdatePairs.{IsPaired}
use Rattle.ranges.proofs.WayTests.{IsIn, any_none, any_some, both_marked, is_marked, opposes_marked, opposes_swap, some_any}

abbrev pub touches : List Touch → Cell → Bool
touches xs c = reads xs c || writes xs c

-- a touch of each, of the cell, that oppose each other
pub record Opposed (xs ys : List Touch) (c : Cell) : Type 0 where
  pub first : Touch
  pub in_first : IsIn first xs
  pub at_first : has_cell c first ≡ true
  pub second : Touch
  pub in_second : IsIn second ys
  pub at_second : has_cell c second ≡ true
  pub oppose : opposes (kind_of first) (kind_of second) ≡ true

pub opposed_meet : (xs ys : List Touch) (c : Cell) → Opposed xs ys c → meets_before xs ys c ≡ true
opposed_meet xs ys c o =
    some_any (λ t. has_cell c t && touched_before xs (kind_of t) c) ys o.second o.in_second
    (and_from (has_cell c o.second) (touched_before xs (kind_of o.second) c) o.at_second
    (some_any (λ s. opposes (kind_of s) (kind_of o.second) && has_cell c s) xs o.first o.in_first
    (and_from (opposes (kind_of o.first) (kind_of o.second)) (has_cell c o.first) o.oppose o.at_first)))

meet_opposed : (xs ys : List Touch) (c : Cell) → meets_before xs ys c ≡ true → Opposed xs ys c
meet_opposed xs ys c h =
    let t = any_some (λ t. has_cell c t && touched_before xs (kind_of t) c) ys h in
    let there = and_parts (has_cell c t.item) (touched_before xs (kind_of t.item) c) t.holds in
    let s = any_some (λ s. opposes (kind_of s) (kind_of t.item) && has_cell c s) xs there.1 in
    let here = and_parts (opposes (kind_of s.item) (kind_of t.item)) (has_cell c s.item) s.holds in
    record {
      first = s.item;
      in_first = s.inside;
      at_first = here.1;
      second = t.item;
      in_second = t.inside;
      at_second = there.0;
      oppose = here.0;
    }

pub swapped : (xs ys : List Touch) (c : Cell) → Opposed ys xs c → Opposed xs ys c
swapped xs ys c o =
    record {
      first = o.second;
      in_first = o.in_second;
      at_first = o.at_second;
      second = o.first;
      in_second = o.in_first;
      at_second = o.at_first;
      oppose = opposes_swap (kind_of o.first) (kind_of o.second) o.oppose;
    }

-- ---- what opposes does not commute

is_touched : (xs : List Touch) (c : Cell) (t : Touch) → IsIn t xs → has_cell c t ≡ true → touches xs c ≡ true
is_touched xs c t i h = go t.is_write refl
  where
    go : (w : Bool) → t.is_write ≡ w → touches xs c ≡ true
    go true e = or_right (reads xs c) (writes xs c)
        (some_any (λ u. u.is_write && has_cell c u) xs t i (and_from t.is_write (has_cell c t) e h))
    go false e = or_left (reads xs c) (writes xs c)
        (some_any (λ u. not u.is_write && has_cell c u) xs t i
        (and_from (not t.is_write) (has_cell c t) (not_from_false t.is_write e) h))

is_written : (xs : List Touch) (c : Cell) (t : Touch) → IsPaired xs → IsIn t xs → has_cell c t ≡ true →
    (t.is_write || is_marked t.combines) ≡ true → writes xs c ≡ true
is_written xs c t paired i h a =
    ⊎_elim (λ w. some_any (λ u. u.is_write && has_cell c u) xs t i (and_from t.is_write (has_cell c t) w h))
    (λ m. paired c (some_any (λ u. is_marked u.combines && has_cell c u) xs t i
    (and_from (is_marked t.combines) (has_cell c t) m h)))
    (or_cases t.is_write (is_marked t.combines) a)

touched_else : (op : CombineOp) (xs : List Touch) (c : Cell) (t : Touch) → IsIn t xs → has_cell c t ≡ true →
    touches_else op xs c ≡ false → marked_by op t.combines ≡ true
touched_else op xs c t i h e =
    true_from_ne_false (marked_by op t.combines) (λ f. both_ways (touches_else op xs c) e
    (some_any (λ u. not (updates_by op u) && has_cell c u) xs t i
    (and_from (not (updates_by op t)) (has_cell c t) (not_from_false (updates_by op t) f) h)))

no_commuting : (xs ys : List Touch) (c : Cell) → Opposed xs ys c → commute_at xs ys c ≡ false
no_commuting xs ys c o = any_none (λ op. not (touches_else op xs c || touches_else op ys c)) operators
    (λ op. not_from_true (touches_else op xs c || touches_else op ys c)
    (true_from_ne_false (touches_else op xs c || touches_else op ys c) (λ f.
    let both = or_parts (touches_else op xs c) (touches_else op ys c) f in
    true≢false (sym o.oppose ∙ both_marked op o.first.combines o.second.combines o.first.is_write o.second.is_write
    (touched_else op xs c o.first o.in_first o.at_first both.0)
    (touched_else op ys c o.second o.in_second o.at_second both.1)))))

abbrev pub conflict : List Touch → List Touch → Cell → Bool
conflict xs ys c = writes xs c && (touches ys c && not (commute_at xs ys c))

pub meeting_conflicts : (xs ys : List Touch) (c : Cell) → IsPaired xs → IsPaired ys → meets_before xs ys c ≡ true →
    (conflict xs ys c ≡ true) ⊎ (conflict ys xs c ≡ true)
meeting_conflicts xs ys c p q h =
    let o = meet_opposed xs ys c h in
    ⊎_elim
    (λ a. inl (and_from (writes xs c) (touches ys c && not (commute_at xs ys c))
    (is_written xs c o.first p o.in_first o.at_first a)
    (and_from (touches ys c) (not (commute_at xs ys c)) (is_touched ys c o.second o.in_second o.at_second)
    (not_from_false (commute_at xs ys c) (no_commuting xs ys c o)))))
    (λ a. inr (and_from (writes ys c) (touches xs c && not (commute_at ys xs c))
    (is_written ys c o.second q o.in_second o.at_second a)
    (and_from (touches xs c) (not (commute_at ys xs c)) (is_touched xs c o.first o.in_first o.at_first)
    (not_from_false (commute_at ys xs c) (no_commuting ys xs c (swapped ys xs c o))))))
    (opposes_marked o.first.combines o.second.combines o.first.is_write o.second.is_write o.oppose)
