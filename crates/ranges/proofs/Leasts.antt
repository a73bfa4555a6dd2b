-- The least of some places.
use Rattle.std.proofs.Common.{◌≡◌, zero, suc, Bool, true, false, List, [], ◌∷◌, ◌++◌, map, refl, ap, ◌∙◌, subst, inl, inr, ◌⊎◌, ⊎_elim, Option, Some, None, Contains, arith}
use Rattle.std.specs.Prelude.{filter, cond}
use Rattle.std.proofs.lemmas.Bool.Decides.{nat_tests}
use Rattle.base.specs.declared.tree.Place.{Place}
use Rattle.base.specs.declared.fault.RangeCode.{RangeCode}
use Rattle.base.specs.declared.fault.RangeFault.{RangeFault}
use Rattle.base.specs.Accepted.{key_less}
use Rattle.ranges.specs.Faults.{IsFirst, fault_at, is_before, lesser, least_place, least_of, with_place, range_key}

pub before_lesser : (p q : Place) → is_before (lesser p (Some q)) p ≡ true
before_lesser p q = go (is_before q p) refl
  where
    go : (b : Bool) → is_before q p ≡ b → is_before (cond b q p) p ≡ true
    go true e = e
    go false e = grind (arith, nat_tests)

pub before_first : (p q : Place) → is_before (lesser p (Some q)) q ≡ true
before_first p q = go (is_before q p) refl
  where
    go : (b : Bool) → is_before q p ≡ b → is_before (cond b q p) q ≡ true
    go true e = grind (arith, nat_tests)
    go false e = grind (arith, nat_tests)

pub before_itself : (p : Place) → is_before p p ≡ true
before_itself p = grind (arith, nat_tests)

pub before_before : (p q r : Place) → is_before p q ≡ true → is_before q r ≡ true → is_before p r ≡ true
before_before p q r a b = grind (arith, nat_tests)

same_rank : (code : RangeCode) (p q : Place) → is_before p q ≡ true →
    key_less (range_key (fault_at code q)) (range_key (fault_at code p)) ≡ false
same_rank code p q h = grind (arith, nat_tests)

pub least_append : (ps qs : List Place) (least : Option Place) → least_place (ps ++ qs) least ≡ least_place qs
    (least_place ps least)
least_append [] qs least = refl
least_append (p ∷ ps) qs least = least_append ps qs (Some (lesser p least))

-- a place that was found is kept or made less
found_stays : (ps : List Place) (q : Place) → least_place ps (Some q) ≡ None → ⊥
found_stays [] q e = cc
found_stays (p ∷ ps) q e = found_stays ps (lesser p (Some q)) e

pub no_place : (ps : List Place) (least : Option Place) → least_place ps least ≡ None → ps ≡ []
no_place [] least e = refl
no_place (p ∷ ps) least e = absurd (found_stays ps (lesser p least) e)

-- the place is that of a fault, or was there before
found_place : (code : RangeCode) (ps : List Place) (least : Option Place) (p : Place) → least_place ps least ≡ Some p →
    (least ≡ Some p) ⊎ Contains (map (fault_at code) ps) (fault_at code p)
found_place code [] least p e = inl e
found_place code (q ∷ rest) least p e = ⊎_elim (λ is. new least refl is) (λ h. inr (further h))
    (found_place code rest (Some (lesser q least)) p e)
  where
    further : Contains (map (fault_at code) rest) (fault_at code p) → Contains (map (fault_at code) (q ∷ rest))
        (fault_at code p)
    further (k, h, is) = (suc k, omega arith, is)

    new : (o : Option Place) → least ≡ o → Some (lesser q o) ≡ Some p →
        (least ≡ Some p) ⊎ Contains (map (fault_at code) (q ∷ rest)) (fault_at code p)
    new None was is =
        let same : q ≡ p = cc in
        inr (0, omega arith, ap (fault_at code) same)
    new (Some r) was is = pick (is_before r q) is
      where
        pick : (b : Bool) → Some (cond b r q) ≡ Some p →
            (least ≡ Some p) ⊎ Contains (map (fault_at code) (q ∷ rest)) (fault_at code p)
        pick true is = inl (was ∙ is)
        pick false is =
            let same : q ≡ p = cc in
            inr (0, omega arith, ap (fault_at code) same)

-- what was there is not before the place
abbrev NotAfter : Place → Option Place → Type 0
NotAfter p None = Unit {0}
NotAfter p (Some q) = is_before p q ≡ true

-- no fault is before the place, and nothing that was there
none_before : (code : RangeCode) (ps : List Place) (least : Option Place) (p : Place) → least_place ps least ≡ Some p →
    NotAfter p least
    × ((g : RangeFault) → Contains (map (fault_at code) ps) g → key_less (range_key g) (range_key (fault_at code p)) ≡
    false)
none_before code [] None p e = absurd cc
none_before code [] (Some q) p e =
    let same : q ≡ p = cc in
    (subst (λ (r : Place). is_before r q ≡ true) same (before_itself q), λ g (k, h, is). absurd (omega arith))
none_before code (q ∷ rest) least p e =
    let later = none_before code rest (Some (lesser q least)) p e in
    (earlier least later.0, both (here least later.0) later.1)
  where
    earlier : (o : Option Place) → is_before p (lesser q o) ≡ true → NotAfter p o
    earlier None h = tt
    earlier (Some r) h = before_before p (lesser q (Some r)) r h (before_first q r)

    here : (o : Option Place) → is_before p (lesser q o) ≡ true → is_before p q ≡ true
    here None h = h
    here (Some r) h = before_before p (lesser q (Some r)) q h (before_lesser q r)

    both : is_before p q ≡ true →
        ((g : RangeFault) → Contains (map (fault_at code) rest) g → key_less (range_key g)
        (range_key (fault_at code p)) ≡ false) →
        (g : RangeFault) → Contains (map (fault_at code) (q ∷ rest)) g → key_less (range_key g)
        (range_key (fault_at code p)) ≡ false
    both first later g (zero, h, is) = subst (λ (f : RangeFault). key_less (range_key f) (range_key (fault_at code p)) ≡
        false) is (same_rank code p q first)
    both first later g (suc k, h, is) = later g (k, omega arith, is)

pub is_first : (code : RangeCode) (ps : List Place) (p : Place) → least_place ps None ≡ Some p →
    IsFirst (map (fault_at code) ps) (fault_at code p)
is_first code ps p e = record {
  holds = ⊎_elim (λ is. absurd cc) (λ c. c) (found_place code ps None p e);
  first = (none_before code ps None p e).1;
}

pub least_of_is : {A : Type 0} (fails : A → Bool) (place : A → Place) (xs : List A) (least : Option Place) →
    least_of fails place xs least ≡ least_place (map place (filter fails xs)) least
least_of_is fails place [] least = refl
least_of_is {A} fails place (x ∷ xs) least = go (fails x) (λ l. least_of_is fails place xs l)
  where
    go : (b : Bool) → ((l : Option Place) → least_of fails place xs l ≡ least_place (map place (filter fails xs)) l) →
        least_of fails place xs (with_place b (place x) least)
        ≡ least_place (map place (cond b (x ∷ filter fails xs) (filter fails xs))) least
    go true rest = rest (Some (lesser (place x) least))
    go false rest = rest least

pub mapped_places : {A : Type 0} (code : RangeCode) (fault : A → RangeFault) (place : A → Place) (xs : List A) →
    ((x : A) → fault x ≡ fault_at code (place x)) →
    map fault xs ≡ map (fault_at code) (map place xs)
mapped_places code fault place [] h = refl
mapped_places code fault place (x ∷ xs) h = λ i. h x i ∷ mapped_places code fault place xs h i
