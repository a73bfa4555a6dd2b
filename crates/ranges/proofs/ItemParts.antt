-- The faults of an item's sections come before those of its region.
use Rattle.std.proofs.Common.{◌≡◌, ℕ, zero, suc, ◌≤◌, Bool, false, true, List, [], ◌∷◌, ◌++◌, map, Option, Some, None, Contains, refl, ap, ⊎_elim, arith}
use Rattle.std.specs.Prelude.{All, filter, cond, nat_lt}
use Rattle.std.proofs.lemmas.Bool.Decides.{nat_tests}
use Rattle.std.proofs.lemmas.List.Elements.{All-append, All-contains, Contains-append_left, Contains-append_cases}
use Rattle.base.specs.declared.tree.Region.{Region}
use Rattle.base.specs.declared.item.MapItem.{MapItem}
use Rattle.base.specs.declared.item.Depend.{Depend}
use Rattle.base.specs.declared.fault.RangeFault.{RangeFault}
use Rattle.base.specs.Items.{Work}
use Rattle.base.specs.Footprint.{turns_in, touches_of, leaves_array}
use Rattle.base.specs.Accepted.{region_faults, section_faults, map_fault, depend_fault, turns_fault, subscript_fault, section_fails, range_rank, key_less, most_turns}
use Rattle.ranges.specs.Faults.{IsFirst, range_key}
use Rattle.ranges.specs.ItemFaults.{IsByParts}

each_mapped : {A : Type 0} (P : RangeFault → Type 0) (fault : A → RangeFault) → ((x : A) → P (fault x)) → (xs : List A) →
    All P (map fault xs)
each_mapped P fault h [] k d lt = absurd (omega arith)
each_mapped P fault h (x ∷ xs) zero d lt = h x
each_mapped P fault h (x ∷ xs) (suc k) d lt = each_mapped P fault h xs k d (omega arith)

abbrev IsSection : RangeFault → Type 0
IsSection f = range_rank f.code ≡ 0

abbrev IsLater : RangeFault → Type 0
IsLater f = 1 ≤ range_rank f.code

sections_are : (lengths : List ℕ) (maps : List MapItem) (depends : List Depend) → All IsSection
    (section_faults lengths maps depends)
sections_are lengths maps depends =
    All-append IsSection (map map_fault (filter (λ m. section_fails lengths m.section) maps))
    (map depend_fault (filter (λ d. section_fails lengths d.section) depends))
    (each_mapped IsSection map_fault (λ m. refl) (filter (λ m. section_fails lengths m.section) maps))
    (each_mapped IsSection depend_fault (λ d. refl) (filter (λ d. section_fails lengths d.section) depends))

turns_later : (r : Region) (b : Bool) → All IsLater (cond b (turns_fault r ∷ []) [])
turns_later r true zero d lt = omega arith
turns_later r true (suc k) d lt = absurd (omega arith)
turns_later r false k d lt = absurd (omega arith)

regions_are : (lengths loops : List ℕ) (r : Option Region) → All IsLater (region_faults lengths loops r)
regions_are lengths loops None = λ k d lt. absurd (omega arith)
regions_are lengths loops (Some r) =
    All-append IsLater (cond (nat_lt most_turns (turns_in r)) (turns_fault r ∷ []) [])
    (map subscript_fault (filter (leaves_array lengths) (touches_of r loops)))
    (turns_later r (nat_lt most_turns (turns_in r)))
    (each_mapped IsLater subscript_fault (λ t. omega arith) (filter (leaves_array lengths) (touches_of r loops)))

later : (f g : RangeFault) → IsSection f → IsLater g → key_less (range_key g) (range_key f) ≡ false
later f g a b = grind (arith, nat_tests)

section_first : (lengths : List ℕ) (w : Work) (f : RangeFault) →
    IsFirst (section_faults lengths w.maps w.depends) f →
    IsFirst (section_faults lengths w.maps w.depends ++ region_faults lengths w.loops w.region) f
section_first lengths w f h =
    let all = section_faults lengths w.maps w.depends in
    let others = region_faults lengths w.loops w.region in
    let is : IsSection f = All-contains IsSection all f (sections_are lengths w.maps w.depends) h.holds in
    record {
      holds = Contains-append_left all others f h.holds;
      first = λ g c. ⊎_elim (h.first g)
          (λ (d : Contains others g). later f g is
          (All-contains IsLater others g (regions_are lengths w.loops w.region) d))
          (Contains-append_cases all others g c);
    }

pub by_parts : (lengths : List ℕ) (w : Work) → IsByParts lengths w
by_parts lengths w = record {
  sections = section_first lengths w;
  region = λ e. ap (λ (fs : List RangeFault). fs ++ region_faults lengths w.loops w.region) e;
}
