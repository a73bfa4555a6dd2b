-- The first fault of the first two passes.
use Rattle.std.proofs.Common.{◌≡◌, ℕ, ◌+◌, ◌<◌, ◌≤◌, false, List, [], length, Option, Some, None, Contains, refl, sym, ap, ◌∙◌, subst, ⊎_elim, arith}
use Rattle.std.specs.Prelude.{slice_get}
use Rattle.std.proofs.lemmas.Bool.{cases_eq, cases_lt}
use Rattle.std.proofs.lemmas.Bool.Decides.{nat_tests}
use Rattle.std.proofs.lemmas.Option.{slice_get_past}
use Rattle.base.proofs.Nils.{nil_parts}
use Rattle.base.specs.declared.fault.RangeFault.{RangeFault}
use Rattle.base.specs.Items.{Work, Plan}
use Rattle.base.specs.Accepted.{Fault, IsFault, IsFirstFault, Order, Range, Refused, SectionsFit, fault_key, key_less, range_faults, region_faults, section_faults}
use Rattle.ranges.specs.Faults.{IsFirst, range_key}
use Rattle.base.specs.Machine.{on_item}
use Rattle.ranges.specs.declared.FootprintFault.{FootprintFault}
use Rattle.ranges.specs.declared.FootprintFault.TheVariants as footprint
use Rattle.ranges.specs.Found.{IsFootprintFault}
use Rattle.mapcheck.specs.Passes.{IsCheckFault, range_fault}
use Rattle.mapwalk.specs.Walk.{HasNoRangeFault}

abbrev pub faults_at : Plan → ℕ → List RangeFault
faults_at plan i = on_item plan i [] (range_faults plan.lengths)

abbrev faults_of : List ℕ → Option Work → List RangeFault
faults_of lengths o = elim o [ None ↦ [] | Some w ↦ range_faults lengths w ]

-- no item below i has a fault of range
abbrev pub NoneBelow : Plan → ℕ → Type 0
NoneBelow plan i = (k : ℕ) → k < i → faults_at plan k ≡ []

pub none_more : (plan : Plan) (i : ℕ) (w : Work) → NoneBelow plan i → slice_get plan.items i ≡ Some w →
    range_faults plan.lengths w ≡ [] → NoneBelow plan (i + 1)
none_more plan i w h there none k lt = ⊎_elim
    (λ (same : k ≡ i). ap (faults_at plan) same ∙ ap (faults_of plan.lengths) there ∙ none)
    (λ (other : k ≡ i → ⊥). h k (omega (arith, lt, other))) (cases_eq k i)

pub none_at_all : (plan : Plan) (i : ℕ) → NoneBelow plan i → length plan.items ≤ i → HasNoRangeFault plan
none_at_all plan i h all k = ⊎_elim (λ (lt : k < i). h k lt)
    (λ (le : i ≤ k). ap (faults_of plan.lengths) (slice_get_past plan.items k (omega arith))) (cases_lt k i)

pub nothing_in : (fs : List RangeFault) (f : RangeFault) → fs ≡ [] → Contains fs f → ⊥
nothing_in fs f e h = let none : Contains [] f = subst (λ xs. Contains xs f) e h in absurd (omega (arith, none.1))

same_item : (i : ℕ) (f g : RangeFault) → key_less (range_key g) (range_key f) ≡ false →
    key_less (fault_key (Range i g)) (fault_key (Range i f)) ≡ false
same_item i f g h = grind (arith, nat_tests)

later_item : (i j : ℕ) (f g : RangeFault) → i < j → key_less (fault_key (Range j g)) (fault_key (Range i f)) ≡ false
later_item i j f g lt = grind (arith, nat_tests)

-- the first fault of the first item that has one
pub first_range : (plan : Plan) (i : ℕ) (w : Work) (f : RangeFault) → NoneBelow plan i →
    slice_get plan.items i ≡ Some w → IsFirst (range_faults plan.lengths w) f → IsFirstFault plan (Range i f)
first_range plan i w f h there found = record {
  holds = subst (λ xs. Contains xs f) (sym (at_item i refl)) found.holds;
  first = λ g fault. against g fault;
}
  where
    at_item : (j : ℕ) → j ≡ i → faults_at plan j ≡ range_faults plan.lengths w
    at_item j e = ap (faults_at plan) e ∙ ap (faults_of plan.lengths) there

    here : (j : ℕ) (g : RangeFault) → j ≡ i → Contains (faults_at plan j) g →
        key_less (fault_key (Range j g)) (fault_key (Range i f)) ≡ false
    here j g e c = subst (λ m. key_less (fault_key (Range m g)) (fault_key (Range i f)) ≡ false) (sym e)
        (same_item i f g (found.first g (subst (λ xs. Contains xs g) (at_item j e) c)))

    against : (g : Fault) → IsFault plan g → key_less (fault_key g) (fault_key (Range i f)) ≡ false
    against (Range j g) fault = ⊎_elim (λ (lt : j < i). absurd (nothing_in (faults_at plan j) g (h j lt) fault))
        (λ (le : i ≤ j). ⊎_elim (λ (e : j ≡ i). here j g e fault)
        (λ (differs : j ≡ i → ⊥). later_item i j f g (omega (arith, le, differs))) (cases_eq j i))
        (cases_lt j i)
    against (Order g) fault = refl
    against (Refused r) fault = refl

pub first_fault : (plan : Plan) (i : ℕ) (w : Work) (f : FootprintFault) → NoneBelow plan i →
    slice_get plan.items i ≡ Some w → IsFootprintFault (range_faults plan.lengths w) f →
    IsCheckFault plan (range_fault i f)
first_fault plan i w (footprint.Range f) h there found = first_range plan i w f h there found
first_fault plan i w footprint.OutOfMemory h there found = tt

-- where no item has a fault of range, its sections have none
pub sections_fit : (plan : Plan) → HasNoRangeFault plan → SectionsFit plan
sections_fit plan none i = go (slice_get plan.items i) (none i)
  where
    go : (o : Option Work) → faults_of plan.lengths o ≡ [] →
        (elim o as (λ z. List RangeFault) [ None ↦ [] | Some w ↦ section_faults plan.lengths w.maps w.depends ]) ≡ []
    go None e = refl
    go (Some w) e = (nil_parts (section_faults plan.lengths w.maps w.depends)
        (region_faults plan.lengths w.loops w.region) e).0
