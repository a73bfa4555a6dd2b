-- The least cell of a clash.
use Rattle.std.proofs.Common.{◌≡◌, ◌<◌, max, Bool, true, false, List, [], ◌∷◌, refl, sym, ap, ◌∙◌, Option, Some, None, arith}
use Rattle.std.specs.Prelude.{not, ◌&&◌, ◌||◌, cond}
use Rattle.std.specs.List.{list_any}
use Rattle.std.proofs.Math.Bool.{or-false, or_assoc}
use Rattle.std.proofs.lemmas.Bool.Decides.{nat_tests}
use Rattle.base.specs.declared.item.Cell.{Cell}
use Rattle.base.specs.declared.item.Section.{Section}
use Rattle.base.specs.declared.item.Depend.{Depend}
use Rattle.base.specs.Least.{IsLeast, is_less, lesser}
use Rattle.base.proofs.Leasts.{least_same, lesser_is}
use Rattle.base.specs.Memory.{is_in, overlaps, same_section}
use Rattle.base.specs.Accepted.{clash}
use Rattle.order.specs.Clashes.{clash_of, least_of_all, least_of_one}

abbrev pub AllSized : List Depend → Type 0
AllSized [] = Unit {0}
AllSized (d ∷ ds) = (0 < d.section.length) × AllSized ds

first_in_left : (s t : Section) → 0 < s.length → 0 < t.length → (overlaps s t && not (same_section s t)) ≡ true →
    is_in (record { array = s.array; index = max s.first t.first }) s ≡ true
first_in_left s t p q e = grind (arith, nat_tests)

first_in_right : (s t : Section) → 0 < s.length → 0 < t.length → (overlaps s t && not (same_section s t)) ≡ true →
    is_in (record { array = s.array; index = max s.first t.first }) t ≡ true
first_in_right s t p q e = grind (arith, nat_tests)

all_four : (o s i j : Bool) → (o && not s) ≡ true → i ≡ true → j ≡ true → (o && (not s && (i && j))) ≡ true
all_four true true i j e p q = absurd cc
all_four true false i j e p q = ap (λ b. b && j) p ∙ q
all_four false s i j e p q = absurd cc

in_both : (o s i j : Bool) → (o && (not s && (i && j))) ≡ true → (i ≡ true) × (j ≡ true)
in_both true false true j e = (refl, e)
in_both true false false j e = absurd cc
in_both true true i j e = absurd cc
in_both false s i j e = absurd cc

none_of_four : (o s i j : Bool) → (o && not s) ≡ false → (o && (not s && (i && j))) ≡ false
none_of_four true true i j e = refl
none_of_four true false i j e = absurd cc
none_of_four false s i j e = refl

not_before : (s t : Section) (d : Cell) → is_in d s ≡ true → is_in d t ≡ true →
    is_less d (record { array = s.array; index = max s.first t.first }) ≡ false
not_before s t d p q = grind (arith, nat_tests)

clash_is : (d e : Depend) → 0 < d.section.length → 0 < e.section.length → IsLeast (λ c. clash c d e)
    (clash_of d.section e.section)
unfolding clash_of
clash_is d e p q = go (overlaps d.section e.section && not (same_section d.section e.section)) refl
  where
    first : Cell
    first = record { array = d.section.array; index = max d.section.first e.section.first }

    go : (b : Bool) → (overlaps d.section e.section && not (same_section d.section e.section)) ≡ b →
        IsLeast (λ c. clash c d e) (cond b (Some first) None)
    go false is = λ c. none_of_four (overlaps d.section e.section) (same_section d.section e.section) (is_in c d.section)
        (is_in c e.section) is
    go true is = (
      all_four (overlaps d.section e.section) (same_section d.section e.section) (is_in first d.section)
          (is_in first e.section) is (first_in_left d.section e.section p q is) (first_in_right d.section e.section p q is),
      λ c h. let both = in_both (overlaps d.section e.section) (same_section d.section e.section) (is_in c d.section)
          (is_in c e.section) h in not_before d.section e.section c both.0 both.1,
    )

one_is : (P : Cell → Bool) (d : Depend) (es : List Depend) (least : Option Cell) → 0 < d.section.length → AllSized es →
    IsLeast P least → IsLeast (λ c. P c || list_any (clash c d) es) (least_of_one d es least)
one_is P d [] least p q h = least_same P (λ c. P c || false) least (λ c. sym (or-false (P c))) h
one_is P d (e ∷ es) least p q h =
    least_same (λ c. (P c || clash c d e) || list_any (clash c d) es) (λ c. P c || (clash c d e || list_any (clash c d) es))
    (least_of_one d es (lesser least (clash_of d.section e.section)))
    (λ c. or_assoc (P c) (clash c d e) (list_any (clash c d) es))
    (one_is (λ c. P c || clash c d e) d es (lesser least (clash_of d.section e.section)) p q.1
    (lesser_is P (λ c. clash c d e) least (clash_of d.section e.section) h (clash_is d e p q.0)))

-- of some depend items and others, none of them empty
pub all_is : (P : Cell → Bool) (ds es : List Depend) (least : Option Cell) → AllSized ds → AllSized es → IsLeast P least →
    IsLeast (λ c. P c || list_any (λ d. list_any (clash c d) es) ds) (least_of_all ds es least)
all_is P [] es least p q h = least_same P (λ c. P c || false) least (λ c. sym (or-false (P c))) h
all_is P (d ∷ ds) es least p q h =
    least_same (λ c. (P c || list_any (clash c d) es) || list_any (λ d. list_any (clash c d) es) ds)
    (λ c. P c || (list_any (clash c d) es || list_any (λ d. list_any (clash c d) es) ds))
    (least_of_all ds es (least_of_one d es least))
    (λ c. or_assoc (P c) (list_any (clash c d) es) (list_any (λ d. list_any (clash c d) es) ds))
    (all_is (λ c. P c || list_any (clash c d) es) ds es (least_of_one d es least) p.1 q (one_is P d es least p.0 q h))
