-- The first fault of range of a region.
use Rattle.std.proofs.Common.{◌≡◌, ℕ, zero, suc, ◌-◌, ◌^◌, min, ◌<◌, ◌≤◌, true, false, List, [], ◌∷◌, map, length, refl, ap, ◌∙◌, sym, subst, Some, None, Contains, arith}
use Rattle.std.specs.Prelude.{filter, nat_lt}
use Rattle.std.proofs.lemmas.Bool.Decides.{nat_tests}
use Rattle.base.specs.declared.tree.Place.{Place}
use Rattle.base.specs.declared.tree.Region.{Region}
use Rattle.base.specs.declared.fault.RangeFault.{RangeFault}
use Rattle.base.specs.declared.fault.RangeCode.TheVariants.{SubscriptOutside}
use Rattle.base.specs.Footprint.{Touch, touches_of, turns_in, leaves_array}
use Rattle.base.specs.Accepted.{subscript_fault, turns_fault, region_faults, key_less, most_turns}
use Rattle.ranges.specs.Faults.{IsFirst, fault_at, least_of, range_key}
use Rattle.ranges.proofs.Leasts.{is_first, least_of_is, mapped_places, no_place}
use Rattle.ranges.proofs.AllSeen.{place_of}

abbrev subscript_faults : List ℕ → List Touch → List RangeFault
subscript_faults lengths ts = map subscript_fault (filter (leaves_array lengths) ts)

faults_are : (lengths : List ℕ) (ts : List Touch) → subscript_faults lengths ts ≡ map (fault_at SubscriptOutside)
    (map place_of (filter (leaves_array lengths) ts))
faults_are lengths ts = mapped_places SubscriptOutside subscript_fault place_of (filter (leaves_array lengths) ts)
    (λ t. refl)

few : (r : Region) → turns_in r ≤ most_turns → nat_lt most_turns (turns_in r) ≡ false
few r h = grind (arith, nat_tests)

pub no_fault : (lengths loops : List ℕ) (r : Region) → turns_in r ≤ most_turns →
    least_of (leaves_array lengths) place_of (touches_of r loops) None ≡ None →
    region_faults lengths loops (Some r) ≡ []
no_fault lengths loops r h e =
    let ts : List Touch = touches_of r loops in
    rw (few r h) (faults_are lengths ts ∙ ap (map (fault_at SubscriptOutside))
    (no_place (map place_of (filter (leaves_array lengths) ts)) None
    (sym (least_of_is (leaves_array lengths) place_of ts None) ∙ e)))

pub subscript_first : (lengths loops : List ℕ) (r : Region) (p : Place) → turns_in r ≤ most_turns →
    least_of (leaves_array lengths) place_of (touches_of r loops) None ≡ Some p →
    IsFirst (region_faults lengths loops (Some r)) (fault_at SubscriptOutside p)
subscript_first lengths loops r p h e =
    let ts : List Touch = touches_of r loops in
    rw (few r h) (subst (λ (fs : List RangeFault). IsFirst fs (fault_at SubscriptOutside p))
    (sym (faults_are lengths ts))
    (is_first SubscriptOutside (map place_of (filter (leaves_array lengths) ts)) p
    (sym (least_of_is (leaves_array lengths) place_of ts None) ∙ e)))

pub turns_first : (lengths loops : List ℕ) (r : Region) → most_turns < turns_in r →
    IsFirst (region_faults lengths loops (Some r)) (turns_fault r)
turns_first lengths loops r h = rw is (record { holds = (0, omega arith, refl); first = first })
  where
    is : nat_lt most_turns (turns_in r) ≡ true
    is = grind (arith, nat_tests)

    after : (xs : List Touch) (k : ℕ) (g : RangeFault) → k < length (map subscript_fault xs) →
        Rattle.std.specs.Prelude.slice_index_or (map subscript_fault xs) k g ≡ g →
        key_less (range_key g) (range_key (turns_fault r)) ≡ false
    after [] k g h is = absurd (omega arith)
    after (t ∷ xs) zero g h is = subst (λ (f : RangeFault). key_less (range_key f) (range_key (turns_fault r)) ≡
        false) is refl
    after (t ∷ xs) (suc k) g h is = after xs k g (omega arith) is

    first : (g : RangeFault) → Contains (turns_fault r ∷ subscript_faults lengths (touches_of r loops)) g → key_less
        (range_key g) (range_key (turns_fault r)) ≡ false
    first g (zero, h, is) = subst (λ (f : RangeFault). key_less (range_key f) (range_key (turns_fault r)) ≡ false) is
        (grind (arith, nat_tests))
    first g (suc k, h, is) = after (filter (leaves_array lengths) (touches_of r loops)) k g (omega arith) is

-- The turns as they are counted, up to a most.

pub above_most : (n turns : ℕ) → n ≡ min turns (2 ^ 64 - 1) → 1048576 < n → most_turns < turns
above_most n turns e h = omega arith

pub up_to_most : (n turns : ℕ) → n ≡ min turns (2 ^ 64 - 1) → n ≤ 1048576 → turns ≤ most_turns
up_to_most n turns e h = omega arith
