-- Sections none of which overlap without being identical.
use Rattle.std.proofs.Common.{append-nil, ◌≡◌, ℕ, ◌+◌, ◌<◌, ◌≤◌, true, List, [], ◌∷◌, ◌++◌, length, get_or, take, map, refl, sym, ap, ap₂, ◌∙◌, ⊎_elim, None, arith}
use Rattle.std.specs.Prelude.{Bool, Contains, Option, Some, IsTrue, slice_get}
use Rattle.std.specs.List.{IsAllAdjacentAnswer}
use Rattle.std.proofs.lemmas.Bool.{cases_lt}
use Rattle.std.proofs.lemmas.Bool.Decides.{nat_tests}
use Rattle.std.proofs.lemmas.List.{get_or_default, get_or-map, length-map, take_more}
use Rattle.std.proofs.lemmas.List.Concat.{get_or-flat_map, flat_map-append}
use Rattle.std.proofs.lemmas.Option.{get_or_from_slice_get, slice_get_within}
use Rattle.base.proofs.Places.{get_take}
use Rattle.std.proofs.lemmas.List.Elements.{Contains-append_right}
use Rattle.std.proofs.lemmas.List.Folds.{length-flat_map-take}
use Rattle.base.specs.declared.item.Depend.{Depend}
use Rattle.base.specs.declared.item.Item.{Item}
use Rattle.base.specs.declared.item.Section.{Section}
use Rattle.base.specs.Least.{lesser}
use Rattle.order.specs.Apart.{AreApart, is_same_or_behind, sections_of}
use Rattle.order.specs.Clashes.{clash_at, clash_of, least_clash, least_of_all, least_of_one, IsFirstFound, NoClashBelow}
use Rattle.order.proofs.Chains.{all_pairs}
use Rattle.order.proofs.Found.{clash_in}

-- ---- neighbours

pub same_is : (s : Section) → is_same_or_behind s s ≡ true
same_is s = grind (arith, nat_tests)

pub behind_behind : (s t u : Section) → is_same_or_behind s t ≡ true → is_same_or_behind t u ≡ true →
    is_same_or_behind s u ≡ true
behind_behind s t u p q = grind (arith, nat_tests)

none_behind : (s t : Section) → is_same_or_behind s t ≡ true → clash_of s t ≡ None
unfolding clash_of
none_behind s t p = grind (arith, nat_tests)

none_before : (s t : Section) → is_same_or_behind s t ≡ true → clash_of t s ≡ None
unfolding clash_of
none_before s t p = grind (arith, nat_tests)

-- sections of which each is the next one, or lies before it
pub sorted_apart : (ss : List Section) (r : Bool) → IsAllAdjacentAnswer (λ s t b. b ≡ is_same_or_behind s t) ss r →
    IsTrue r → AreApart ss
sorted_apart ss r h e s t (i, lt, is) (j, lt', is') = ⊎_elim
    (λ (before : i < j). none_behind s t (both i j is at_j (omega (arith, before)) lt'))
    (λ (behind : j ≤ i). none_before t s (both j i at_j is behind lt))
    (cases_lt i j)
  where
    at_j : get_or ss j s ≡ t
    at_j = get_or_default ss j s t lt' ∙ is'

    both : (a b : ℕ) {u v : Section} → get_or ss a s ≡ u → get_or ss b s ≡ v → a ≤ b → b < length ss →
        is_same_or_behind u v ≡ true
    both a b at_a at_b le lt =
        sym (ap₂ is_same_or_behind at_a at_b) ∙ all_pairs is_same_or_behind same_is behind_behind ss r h e a b s le lt

-- ---- items

none_of_one : (d : Depend) (es : List Depend) → ((e : Depend) → Contains es e → clash_of d.section e.section ≡ None) →
    least_of_one d es None ≡ None
none_of_one d [] h = refl
none_of_one d (e ∷ es) h =
    ap (λ c. least_of_one d es (lesser None c)) (h e (0, omega arith, refl))
    ∙ none_of_one d es (λ f has. h f (Contains-append_right (e ∷ []) es f has))

none_of_all : (ds es : List Depend) →
    ((d e : Depend) → Contains ds d → Contains es e → clash_of d.section e.section ≡ None) → least_clash ds es ≡ None
none_of_all [] es h = refl
none_of_all (d ∷ ds) es h =
    ap (λ c. least_of_all ds es c) (none_of_one d es (λ e has. h d e (0, omega arith, refl) has))
    ∙ none_of_all ds es (λ f e has has'. h f e (Contains-append_right (d ∷ []) ds f has) has')

abbrev sections_in : Item → List Section
sections_in it = map (λ d. d.section) it.depends.items

-- one item more
pub sections_more : (its : List Item) (i : ℕ) (a : Item) → i < length its →
    sections_of (take (i + 1) its) ≡ sections_of (take i its) ++ sections_in (get_or its i a)
sections_more its i a lt =
    ap sections_of (take_more its i a lt)
    ∙ flat_map-append sections_in (take i its) (get_or its i a ∷ [])
    ∙ ap (λ (ss : List Section). sections_of (take i its) ++ ss) (append-nil (sections_in (get_or its i a)))

in_sections : (its : List Item) (i : ℕ) (it : Item) (d : Depend) → slice_get its i ≡ Some it → Contains it.depends.items d →
    Contains (sections_of its) d.section
in_sections its i it d e (j, lt, is) =
    let inside : i < length its = slice_get_within its i it e in
    let read : get_or its i it ≡ it = get_or_from_slice_get its i it it e in
    let room : length (sections_of (take i its)) + length (sections_in (get_or its i it)) ≤ length (sections_of its)
    = length-flat_map-take sections_in its i it inside in
    let many : length (sections_in (get_or its i it)) ≡ length it.depends.items
    = ap (λ (x : Item). length (sections_in x)) read ∙ length-map it.depends.items (λ d. d.section) in
    let lt' : j < length (sections_in (get_or its i it)) = omega (arith, many, lt) in (
      length (sections_of (take i its)) + j,
      omega (arith, room, lt'),
      get_or-flat_map sections_in its i j it d.section inside lt'
          ∙ ap (λ (x : Item). get_or (sections_in x) j d.section) read
          ∙ get_or-map (λ (d : Depend). d.section) it.depends.items j d d.section lt
          ∙ ap (λ (d : Depend). d.section) is,
    )

none_at : (its : List Item) (i j : ℕ) → AreApart (sections_of its) → clash_at its i j ≡ None
none_at its i j h = go (slice_get its i) (slice_get its j) refl refl
  where
    go : (o p : Option Item) → slice_get its i ≡ o → slice_get its j ≡ p → clash_in o p ≡ None
    go None p e f = refl
    go (Some it) None e f = refl
    go (Some it) (Some later) e f = none_of_all it.depends.items later.depends.items
        (λ d g has has'. h d.section g.section (in_sections its i it d e has) (in_sections its j later g f has'))

pub apart_none : (its : List Item) → AreApart (sections_of its) → IsFirstFound its None
apart_none its h j k lt = none_at its k j h

-- of the first items alone
pub first_none : (its : List Item) (count : ℕ) → IsFirstFound (take count its) None → NoClashBelow its count
first_none its count h j lt k lt' =
    sym (ap₂ clash_in (get_take count its k (omega (arith, lt, lt'))) (get_take count its j lt)) ∙ h j k lt'
