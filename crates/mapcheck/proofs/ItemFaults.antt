-- The faults of range of an item, from its sections and its region.
use Rattle.std.proofs.Common.{◌≡◌, ℕ, List, [], Option, Some, None, sym, ap, ◌∙◌, subst}
use Rattle.std.specs.Prelude.{IfErr, OnOk, Result, Ok, Err, option_map, slice_get}
use Rattle.base.specs.declared.item.Item.{Item}
use Rattle.base.specs.declared.fault.RangeFault.{RangeFault}
use Rattle.base.specs.declared.tree.Region.{Region}
use Rattle.base.specs.Items.{Work}
use Rattle.base.specs.Accepted.{range_faults, region_faults, section_faults}
use Rattle.outline.specs.Regions.{Entry}
use Rattle.outline.specs.Shown.{shown, work_with}
use Rattle.ranges.specs.declared.FootprintFault.{FootprintFault}
use Rattle.ranges.specs.Faults.{IsFirst}
use Rattle.ranges.specs.Found.{IsFootprintFault}
use Rattle.ranges.proofs.ItemParts.{by_parts}

-- an item is shown with some region
record IsShown (item : Item) (w : Work) : Type 0 where
  region : Option Region
  is : w ≡ work_with item region

shown_with : (entries : List Entry) (item : Item) (w : Work) → shown entries item ≡ Some w → IsShown item w
shown_with entries item w e = go item.region e
  where
    from : (region : Option Region) → ◌≡◌ {A = Option Work} (Some (work_with item region)) (Some w) → IsShown item w
    from region f = record { region = region; is = cc }

    inner : (o : Option Entry) → option_map (λ (x : Entry). work_with item (Some x.region)) o ≡ Some w → IsShown item w
    inner None f = absurd cc
    inner (Some x) f = from (Some x.region) f

    go : (o : Option ℕ) → (elim o [
      | None ↦ Some (work_with item None)
      | Some k ↦ option_map (λ (x : Entry). work_with item (Some x.region)) (slice_get entries k)
    ]) ≡ Some w → IsShown item w
    go None f = from None f
    go (Some k) f = inner (slice_get entries k) f

-- its device is the item's
pub device_shown : (entries : List Entry) (item : Item) (w : Work) → shown entries item ≡ Some w → w.device ≡ item.device.number
device_shown entries item w e = ap (λ (v : Work). v.device) (shown_with entries item w e).is

same_sections : (lengths : List ℕ) (entries : List Entry) (item : Item) (w : Work) → shown entries item ≡ Some w →
    section_faults lengths item.maps.items item.depends.items ≡ section_faults lengths w.maps w.depends
same_sections lengths entries item w e = ap (λ (v : Work). section_faults lengths v.maps v.depends)
    (sym (shown_with entries item w e).is)

pub sections_first : (lengths : List ℕ) (entries : List Entry) (item : Item) (w : Work) (f : RangeFault) →
    shown entries item ≡ Some w → IsFirst (section_faults lengths item.maps.items item.depends.items) f →
    IsFirst (range_faults lengths w) f
sections_first lengths entries item w f e h =
    (by_parts lengths w).sections f (subst (λ fs. IsFirst fs f) (same_sections lengths entries item w e) h)

-- where its sections have no fault, its faults are those of its region
pub as_region : (lengths : List ℕ) (entries : List Entry) (item : Item) (w : Work) → shown entries item ≡ Some w →
    section_faults lengths item.maps.items item.depends.items ≡ [] →
    range_faults lengths w ≡ region_faults lengths w.loops w.region
as_region lengths entries item w e none = (by_parts lengths w).region (sym (same_sections lengths entries item w e) ∙ none)

pub region_fine : {A E : Type 0} (lengths : List ℕ) (w : Work) (r : Result A E) →
    range_faults lengths w ≡ region_faults lengths w.loops w.region → OnOk r (region_faults lengths w.loops w.region ≡ []) →
    OnOk r (range_faults lengths w ≡ [])
region_fine lengths w (Ok x) same h = same ∙ h
region_fine lengths w (Err x) same h = tt

pub region_fault : {A : Type 0} (lengths : List ℕ) (w : Work) (r : Result A FootprintFault) →
    range_faults lengths w ≡ region_faults lengths w.loops w.region →
    IfErr r (IsFootprintFault (region_faults lengths w.loops w.region)) → IfErr r (IsFootprintFault (range_faults lengths w))
region_fault lengths w r same h = subst (λ fs. IfErr r (IsFootprintFault fs)) (sym same) h
