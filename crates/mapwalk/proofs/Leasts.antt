-- The least of some cells.
use Rattle.std.proofs.Common.{◌≡◌, ◌==◌, Bool, true, false, List, [], ◌∷◌, Option, Some, None, refl, sym, ◌∙◌, subst, arith, ⊎_elim}
use Rattle.std.proofs.lemmas.Bool.{or_left, or_right, or_from, or_cases}
use Rattle.std.specs.Prelude.{not, nat_lt, max, ◌&&◌, ◌||◌, if◌then◌else◌}
use Rattle.std.specs.List.{list_any}
use Rattle.std.proofs.lemmas.Bool.Decides.{nat_tests}
use Rattle.std.proofs.Math.Bool.{or_assoc, or-false}
use Rattle.base.specs.declared.item.Cell.{Cell}
use Rattle.base.specs.declared.item.Section.{Section}
use Rattle.base.specs.declared.item.MapItem.{MapItem}
use Rattle.base.specs.Memory.{end_of, is_in, same_cell}
use Rattle.base.specs.Map.{Block, Presence, Absent, Inside, InPart}
use Rattle.base.specs.Actions.{Met}
use Rattle.base.specs.Accepted.{first_cell, in_part, is_absent, met_at}
use Rattle.mapwalk.specs.declared.seen.Seen.{Seen}
use Rattle.base.specs.Least.{is_less}
use Rattle.mapwalk.specs.Seen.{also, least_shared, lesser, seen_absent, seen_all, seen_at, shared}
use Rattle.base.specs.Least.{IsLeast}
use Rattle.mapwalk.specs.Causes.{is_absent_cell, is_missing_cell, is_part_cell}
use Rattle.base.proofs.Leasts.{least_same}

-- none is before the lesser of two that is before neither
before_less : (c d e : Cell) → is_less c d ≡ true → is_less e d ≡ false → is_less e c ≡ true → is_less e d ≡ true
before_less c d e a b x = grind (arith, nat_tests)

after_both : (c d e : Cell) → is_less c d ≡ true → is_less e d ≡ false → is_less e c ≡ false
after_both c d e a b = go (is_less e c) refl
  where
    go : (t : Bool) → is_less e c ≡ t → t ≡ false
    go false x = refl
    go true x = sym (before_less c d e a b x) ∙ b

later_still : (c d e : Cell) → is_less c d ≡ false → is_less e c ≡ false → is_less e d ≡ false
later_still c d e a b = grind (arith, nat_tests)

-- the least of two kinds of cells
pub least_also : (p q : Cell → Bool) (found o : Option Cell) → IsLeast p found → IsLeast q o → IsLeast
    (λ c. p c || q c) (also o found)
least_also p q None None h k = λ c. or_from (p c) (q c) (h c) (k c)
least_also p q (Some x) None h k =
    (or_left (p x) (q x) h.0, λ d t. ⊎_elim (h.1 d) (λ u. absurd (let n = k d in cc)) (or_cases (p d) (q d) t))
least_also p q None (Some y) h k =
    (or_right (p y) (q y) k.0, λ d t. ⊎_elim (λ u. absurd (let n = h d in cc)) (k.1 d) (or_cases (p d) (q d) t))
least_also p q (Some x) (Some y) h k = go (is_less y x) refl
  where
    go : (t : Bool) → is_less y x ≡ t → IsLeast (λ c. p c || q c) (Some (if t then y else x))
    go true e =
        (or_right (p y) (q y) k.0, λ d t. ⊎_elim (λ u. after_both y x d e (h.1 d u)) (k.1 d) (or_cases (p d) (q d) t))
    go false e =
        (or_left (p x) (q x) h.0, λ d t. ⊎_elim (h.1 d) (λ u. later_still y x d e (k.1 d u)) (or_cases (p d) (q d) t))

-- the first cell that two sections share, if they share one
abbrev pub first_of : Section → Section → Cell
first_of s t = record { array = s.array; index = max s.first t.first }

is_shared : (s t : Section) → ((s.array.0 == t.array.0) && (nat_lt (max s.first t.first) (end_of s)
    && nat_lt (max s.first t.first) (end_of t))) ≡ true → (is_in (first_of s t) s && is_in (first_of s t) t) ≡ true
is_shared s t e = grind (arith, nat_tests)

not_earlier : (s t : Section) (d : Cell) → (is_in d s && is_in d t) ≡ true → is_less d (first_of s t) ≡ false
not_earlier s t d e = grind (arith, nat_tests)

none_shared : (s t : Section) (d : Cell) → ((s.array.0 == t.array.0) && (nat_lt (max s.first t.first) (end_of s)
    && nat_lt (max s.first t.first) (end_of t))) ≡ false → (is_in d s && is_in d t) ≡ false
none_shared s t d e = grind (arith, nat_tests)

-- the first cell that two sections share
pub least_of_two : (s t : Section) → IsLeast (λ c. is_in c s && is_in c t) (shared s t)
least_of_two s t = go ((s.array.0 == t.array.0) && (nat_lt (max s.first t.first) (end_of s)
    && nat_lt (max s.first t.first) (end_of t))) refl
  where
    go : (b : Bool) → ((s.array.0 == t.array.0) && (nat_lt (max s.first t.first) (end_of s)
        && nat_lt (max s.first t.first) (end_of t))) ≡ b →
        IsLeast (λ c. is_in c s && is_in c t) (if b then Some (first_of s t) else None)
    go true e = (is_shared s t e, not_earlier s t)
    go false e = λ d. none_shared s t d e

regroup : (p a b c : Bool) → ((p || (a && b)) || (a && c)) ≡ (p || (a && (b || c)))
regroup true a b c = refl
regroup false false b c = refl
regroup false true b c = refl

and_none : (a p : Bool) → p ≡ (p || (a && false))
and_none true true = refl
and_none true false = refl
and_none false true = refl
and_none false false = refl

pub least_of_blocks : (s : Section) (blocks : List Block) (p : Cell → Bool) (found : Option Cell) → IsLeast p found →
    IsLeast (λ c. p c || (is_in c s && list_any (λ b. is_in c b.section) blocks)) (least_shared s blocks found)
least_of_blocks s [] p found h = least_same p _ found (λ c. and_none (is_in c s) (p c)) h
least_of_blocks s (b ∷ blocks) p found h =
    least_same _ _ (least_shared s blocks (also (shared s b.section) found))
    (λ c. regroup (p c) (is_in c s) (is_in c b.section) (list_any (λ x. is_in c x.section) blocks))
    (least_of_blocks s blocks (λ c. p c || (is_in c s && is_in c b.section)) (also (shared s b.section) found)
    (least_also p (λ c. is_in c s && is_in c b.section) found (shared s b.section) h (least_of_two s b.section)))

pub itself : (c : Cell) → same_cell c c ≡ true
itself c = grind (arith, nat_tests)

no_earlier : (c d : Cell) → same_cell d c ≡ true → is_less d c ≡ false
no_earlier c d e = grind (arith, nat_tests)

least_of_one : (x : Cell) → IsLeast (λ c. same_cell c x) (Some x)
least_of_one x = (itself x, no_earlier x)

-- what is noted of met map items, beside what was noted before
pub record AreNoted (p q r : Cell → Bool) (mets : List Met) (s : Seen) : Type 0 where
  pub part_cells : IsLeast (λ c. p c || list_any (is_part_cell c) mets) s.in_part
  pub absent_cells : IsLeast (λ c. q c || list_any (is_absent_cell c) mets) s.absent
  pub missing_cells : IsLeast (λ c. r c || list_any (is_missing_cell c) mets) s.missing

same_least : (p : Cell → Bool) (o : Option Cell) → IsLeast p o → IsLeast (λ c. p c || false) o
same_least p o h = least_same p _ o (λ c. sym (or-false (p c))) h

-- a test that never holds adds no cell
never : (p : Cell → Bool) (b : Bool) (o : Option Cell) → IsLeast p o → IsLeast (λ c. p c || (b && false)) o
never p true o h = same_least p o h
never p false o h = same_least p o h

-- what is noted of one map item
record IsNoted (p q r : Cell → Bool) (m : Met) (s : Seen) : Type 0 where
  part : IsLeast (λ c. p c || is_part_cell c m) s.in_part
  absent : IsLeast (λ c. q c || is_absent_cell c m) s.absent
  missing : IsLeast (λ c. r c || is_missing_cell c m) s.missing

abbrev seen_of : MapItem → List Block → Seen → Presence → Seen
seen_of item blocks seen Absent = seen_absent item seen
seen_of item blocks seen (Inside b) = seen
seen_of item blocks seen InPart = record seen { in_part = least_shared item.section blocks seen.in_part }

-- the cell is the first one of a section, or of none
first_if : (p : Cell → Bool) (s : Section) (o : Option Cell) → IsLeast p o →
    IsLeast (λ c. p c || same_cell c (first_cell s)) (Some (lesser (first_cell s) o))
first_if p s o h = least_also p (λ c. same_cell c (first_cell s)) o (Some (first_cell s)) h (least_of_one (first_cell s))

absent_noted : (p q r : Cell → Bool) (item : MapItem) (s : Seen) (b : Bool) → item.present ≡ b →
    IsLeast p s.in_part → IsLeast q s.absent → IsLeast r s.missing →
    IsLeast (λ c. p c || false) (seen_absent item s).in_part
    × IsLeast (λ c. q c || (not item.present && same_cell c (first_cell item.section))) (seen_absent item s).absent
    × IsLeast (λ c. r c || (item.present && same_cell c (first_cell item.section))) (seen_absent item s).missing
absent_noted p q r item s true e g h k =
    rw e (same_least p s.in_part g, same_least q s.absent h, first_if r item.section s.missing k)
absent_noted p q r item s false e g h k =
    rw e (same_least p s.in_part g, first_if q item.section s.absent h, same_least r s.missing k)

noted_at : (p q r : Cell → Bool) (m : Met) (s : Seen) (at : Presence) → met_at m ≡ at →
    IsLeast (λ c. p c || (in_part at && (is_in c m.item.section && list_any (λ b. is_in c b.section) m.blocks)))
    (seen_of m.item m.blocks s at).in_part →
    IsLeast (λ c. q c || (not m.item.present && (is_absent at && same_cell c (first_cell m.item.section))))
    (seen_of m.item m.blocks s at).absent →
    IsLeast (λ c. r c || (m.item.present && (is_absent at && same_cell c (first_cell m.item.section))))
    (seen_of m.item m.blocks s at).missing → IsNoted p q r m (seen_of m.item m.blocks s (met_at m))
noted_at p q r m s at e h k l =
    record {
      part = subst (λ x. IsLeast (λ c. p c || (in_part x && (is_in c m.item.section
          && list_any (λ b. is_in c b.section) m.blocks))) (seen_of m.item m.blocks s x).in_part) (sym e) h;
      absent = subst (λ x. IsLeast (λ c. q c || (not m.item.present && (is_absent x
          && same_cell c (first_cell m.item.section)))) (seen_of m.item m.blocks s x).absent) (sym e) k;
      missing = subst (λ x. IsLeast (λ c. r c || (m.item.present && (is_absent x
          && same_cell c (first_cell m.item.section)))) (seen_of m.item m.blocks s x).missing) (sym e) l;
    }

one_noted : (p q r : Cell → Bool) (m : Met) (s : Seen) (at : Presence) → met_at m ≡ at →
    IsLeast p s.in_part → IsLeast q s.absent → IsLeast r s.missing → IsNoted p q r m (seen_of m.item m.blocks s (met_at m))
one_noted p q r m s Absent e h k l =
    let both = absent_noted p q r m.item s m.item.present refl h k l in
    noted_at p q r m s Absent e both.0 both.1 both.2
one_noted p q r m s (Inside b) e h k l =
    noted_at p q r m s (Inside b) e (same_least p s.in_part h) (never q (not m.item.present) s.absent k)
    (never r m.item.present s.missing l)
one_noted p q r m s InPart e h k l =
    noted_at p q r m s InPart e (least_of_blocks m.item.section m.blocks p s.in_part h)
    (never q (not m.item.present) s.absent k) (never r m.item.present s.missing l)

pub all_noted : (mets : List Met) (p q r : Cell → Bool) (s : Seen) → IsLeast p s.in_part → IsLeast q s.absent →
    IsLeast r s.missing → AreNoted p q r mets (seen_all mets s)
all_noted [] p q r s h k l =
    record {
      part_cells = same_least p s.in_part h;
      absent_cells = same_least q s.absent k;
      missing_cells = same_least r s.missing l;
    }
all_noted (m ∷ mets) p q r s h k l =
    let one = one_noted p q r m s (met_at m) refl h k l in
    let rest = all_noted mets (λ c. p c || is_part_cell c m) (λ c. q c || is_absent_cell c m)
    (λ c. r c || is_missing_cell c m) (seen_at m.item m.blocks s) one.part one.absent one.missing in
    let end = seen_all mets (seen_at m.item m.blocks s) in
    record {
      part_cells = least_same _ _ end.in_part
          (λ c. or_assoc (p c) (is_part_cell c m) (list_any (is_part_cell c) mets)) rest.part_cells;
      absent_cells = least_same _ _ end.absent
          (λ c. or_assoc (q c) (is_absent_cell c m) (list_any (is_absent_cell c) mets)) rest.absent_cells;
      missing_cells = least_same _ _ end.missing
          (λ c. or_assoc (r c) (is_missing_cell c m) (list_any (is_missing_cell c) mets)) rest.missing_cells;
    }
