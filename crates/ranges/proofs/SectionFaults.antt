-- The first of an item's sections that fail.
use Rattle.std.proofs.Common.{◌≡◌, ℕ, List, [], ◌++◌, map, Some, None, refl, ap, ap₂, sym, ◌∙◌, subst}
use Rattle.std.specs.Prelude.{filter}
use Rattle.std.proofs.lemmas.List.{map-append}
use Rattle.base.specs.declared.tree.Place.{Place}
use Rattle.base.specs.declared.item.MapItem.{MapItem}
use Rattle.base.specs.declared.item.Depend.{Depend}
use Rattle.base.specs.declared.fault.RangeCode.TheVariants.{SectionOutside}
use Rattle.base.specs.declared.fault.RangeFault.{RangeFault}
use Rattle.base.specs.Accepted.{section_fails, section_faults, map_fault, depend_fault}
use Rattle.ranges.specs.Faults.{IsFirst, fault_at, least_place, least_map, least_depend, map_place, depend_place}
use Rattle.ranges.proofs.Leasts.{is_first, least_append, least_of_is, mapped_places, no_place}

abbrev failing : List ℕ → List MapItem → List Depend → List Place
failing lengths maps depends =
    map map_place (filter (λ m. section_fails lengths m.section) maps)
    ++ map depend_place (filter (λ d. section_fails lengths d.section) depends)

faults_are : (lengths : List ℕ) (maps : List MapItem) (depends : List Depend) → section_faults lengths maps depends
    ≡ map (fault_at SectionOutside) (failing lengths maps depends)
faults_are lengths maps depends =
    ap₂ (λ xs ys. xs ++ ys)
    (mapped_places SectionOutside map_fault map_place (filter (λ m. section_fails lengths m.section) maps) (λ m. refl))
    (mapped_places SectionOutside depend_fault depend_place
    (filter (λ d. section_fails lengths d.section) depends) (λ d. refl))
    ∙ sym (map-append (fault_at SectionOutside)
    (map map_place (filter (λ m. section_fails lengths m.section) maps))
    (map depend_place (filter (λ d. section_fails lengths d.section) depends)))

least_is : (lengths : List ℕ) (maps : List MapItem) (depends : List Depend) →
    least_depend lengths depends (least_map lengths maps None) ≡ least_place (failing lengths maps depends) None
least_is lengths maps depends =
    least_of_is (λ (d : Depend). section_fails lengths d.section) depend_place depends (least_map lengths maps None)
    ∙ ap (λ l. least_place (map depend_place (filter (λ d. section_fails lengths d.section) depends)) l)
    (least_of_is (λ (m : MapItem). section_fails lengths m.section) map_place maps None)
    ∙ sym (least_append (map map_place (filter (λ m. section_fails lengths m.section) maps))
    (map depend_place (filter (λ d. section_fails lengths d.section) depends)) None)

pub sections_fine : (lengths : List ℕ) (maps : List MapItem) (depends : List Depend) →
    least_depend lengths depends (least_map lengths maps None) ≡ None → section_faults lengths maps depends ≡ []
sections_fine lengths maps depends e =
    faults_are lengths maps depends
    ∙ ap (map (fault_at SectionOutside)) (no_place (failing lengths maps depends) None
    (sym (least_is lengths maps depends) ∙ e))

pub section_first : (lengths : List ℕ) (maps : List MapItem) (depends : List Depend) (p : Place) →
    least_depend lengths depends (least_map lengths maps None) ≡ Some p →
    IsFirst (section_faults lengths maps depends) (fault_at SectionOutside p)
section_first lengths maps depends p e =
    subst (λ (fs : List RangeFault). IsFirst fs (fault_at SectionOutside p)) (sym (faults_are lengths maps depends))
    (is_first SectionOutside (failing lengths maps depends) p (sym (least_is lengths maps depends) ∙ e))
