-- The items of a program without a fault of range.
use Rattle.std.proofs.Common.{◌≡◌, ◌≤◌, ℕ, zero, suc, false, List, [], ◌∷◌, map, Option, Some, None, refl, sym, ap, ◌∙◌, subst, arith}
use Rattle.std.specs.Prelude.{◌||◌, ◌==◌, nat_lt, option_map, slice_get, slice_index, filter}
use Rattle.std.proofs.lemmas.Bool.Decides.{nat_tests}
use Rattle.std.proofs.lemmas.Option.{same_Some, slice_get-map}
use Rattle.base.specs.declared.item.Item.{Item}
use Rattle.base.specs.declared.item.MapItem.{MapItem}
use Rattle.base.specs.declared.tree.Region.{Region}
use Rattle.base.specs.Memory.{end_of}
use Rattle.base.specs.Items.{Work, Plan}
use Rattle.base.specs.Accepted.{map_fault, depend_fault, range_faults, region_faults, section_faults, section_fails}
use Rattle.base.proofs.Nils.{nil_filter, nil_map, nil_parts}
use Rattle.mapwalk.specs.Walk.{HasNoRangeFault}
use Rattle.present.specs.Table.{AreSections}
use Rattle.outline.specs.Regions.{Entry}
use Rattle.outline.specs.Shown.{all_shown, as_shown, shown, work_with}
use Rattle.actions.specs.Opening.{InArrays, IsWork}
use Rattle.stepper.specs.Opening.{region_in}
use Rattle.stepper.specs.Standing.{IsItem}

map_fits : (lengths : List ℕ) (maps : List MapItem) → filter (λ m. section_fails lengths m.section) maps ≡ [] →
    (k : ℕ) (m : MapItem) → slice_get maps k ≡ Some m → section_fails lengths m.section ≡ false
map_fits lengths [] h k m e = absurd (cc e)
map_fits lengths (x ∷ xs) h zero m e =
    let p = nil_filter (λ (m : MapItem). section_fails lengths m.section) x xs h in
    subst (λ (y : MapItem). section_fails lengths y.section ≡ false) (same_Some x m e) p.0
map_fits lengths (x ∷ xs) h (suc k) m e =
    let p = nil_filter (λ (m : MapItem). section_fails lengths m.section) x xs h in map_fits lengths xs p.1 k m e

fits : (n a e : ℕ) → ((n == 0) || nat_lt a e) ≡ false → (1 ≤ n) × (e ≤ a)
fits n a e h = (grind (arith, nat_tests), grind (arith, nat_tests))

-- the faults of an item
no_faults : (p : Plan) (i : ℕ) (w : Work) → HasNoRangeFault p → slice_get p.items i ≡ Some w → range_faults p.lengths w ≡ []
no_faults p i w fine is = sym (ap (λ o. elim o [ None ↦ [] | Some v ↦ range_faults p.lengths v ]) is) ∙ fine i

section_at : (p : Plan) (i : ℕ) (w : Work) → HasNoRangeFault p → slice_get p.items i ≡ Some w →
    (k : ℕ) (m : MapItem) → slice_get w.maps k ≡ Some m →
    (1 ≤ m.section.length) × (end_of m.section ≤ slice_index p.lengths m.section.array.0)
section_at p i w fine is k m e =
    fits m.section.length (slice_index p.lengths m.section.array.0) (end_of m.section)
    (map_fits p.lengths w.maps
    (nil_map map_fault (filter (λ m. section_fails p.lengths m.section) w.maps)
    (nil_parts (map map_fault (filter (λ m. section_fails p.lengths m.section) w.maps))
    (map depend_fault (filter (λ d. section_fails p.lengths d.section) w.depends))
    (nil_parts (section_faults p.lengths w.maps w.depends) (region_faults p.lengths w.loops w.region)
    (no_faults p i w fine is)).0).0) k m e)

pub sections : (p : Plan) (i : ℕ) (w : Work) → HasNoRangeFault p → ((a : ℕ) → slice_index p.lengths a ≤ 65536) →
    slice_get p.items i ≡ Some w → AreSections w.maps
sections p i w fine short is k m e =
    let s = section_at p i w fine is k m e in
    let l = short m.section.array.0 in
    record { has_cells = s.0; end = (let u = s.1 in omega arith) }

in_arrays : (p : Plan) (i : ℕ) (w : Work) → HasNoRangeFault p → slice_get p.items i ≡ Some w → InArrays p.lengths w.maps
in_arrays p i w fine is k m e = (section_at p i w fine is k m e).1

record IsShown (entries : List Entry) (it : Item) (w : Work) : Type 0 where
  work : IsWork it (region_in entries it) w
  place : w.place ≡ it.place
  deferred : w.deferred ≡ it.deferred
  device : w.device ≡ it.device.number

shown_of : (entries : List Entry) (it : Item) (w : Work) → shown entries it ≡ Some w → IsShown entries it w
shown_of entries it w e = go it.region refl e
  where
    known : (r : Option Region) → region_in entries it ≡ r → Some (work_with it r) ≡ Some w → IsShown entries it w
    known r is h =
        let same : work_with it r ≡ w = same_Some (work_with it r) w h in
        subst (IsShown entries it) same
        (record {
          work = record { kind = refl; maps = refl; region = sym is; loops = refl };
          place = refl;
          deferred = refl;
          device = refl;
        })

    inner : (k : ℕ) (o : Option Entry) → slice_get entries k ≡ o → it.region ≡ Some k →
        option_map (λ (x : Entry). work_with it (Some x.region)) o ≡ Some w → IsShown entries it w
    inner k None at is h = absurd (cc h)
    inner k (Some x) at is h = known (Some x.region) (
        ap (λ o. elim o [ None ↦ None | Some j ↦ option_map (λ (y : Entry). y.region) (slice_get entries j) ]) is
        ∙ ap (option_map (λ (y : Entry). y.region)) at) h

    go : (o : Option ℕ) → it.region ≡ o → (elim o [
      | None ↦ Some (work_with it None)
      | Some k ↦ option_map (λ (x : Entry). work_with it (Some x.region)) (slice_get entries k)
    ]) ≡ Some w → IsShown entries it w
    go None is h =
        known None
        (ap (λ o. elim o [ None ↦ None | Some j ↦ option_map (λ (y : Entry). y.region) (slice_get entries j) ]) is) h
    go (Some k) is h = inner k (slice_get entries k) refl is h

-- an item of the outline, and its work
work_of : (p : Plan) (entries : List Entry) (its : List Item) → all_shown entries its ≡ as_shown p.items →
    (i : ℕ) (it : Item) (w : Work) → slice_get its i ≡ Some it → slice_get p.items i ≡ Some w → IsShown entries it w
work_of p entries its e i it w at_it at_w =
    shown_of entries it w
    (same_Some (shown entries it) (Some w)
    (sym (slice_get-map (shown entries) its i ∙ ap (option_map (shown entries)) at_it)
    ∙ ap (λ xs. slice_get xs i) e ∙ slice_get-map (λ (x : Work). Some x) p.items i
    ∙ ap (option_map (λ (x : Work). Some x)) at_w))

pub same_place : (p : Plan) (entries : List Entry) (its : List Item) → all_shown entries its ≡ as_shown p.items →
    (i : ℕ) (it : Item) (w : Work) → slice_get its i ≡ Some it → slice_get p.items i ≡ Some w → w.place ≡ it.place
same_place p entries its e i it w at_it at_w = (work_of p entries its e i it w at_it at_w).place

pub is_item : (p : Plan) (entries : List Entry) (its : List Item) → all_shown entries its ≡ as_shown p.items →
    HasNoRangeFault p → (i : ℕ) (it : Item) (w : Work) → slice_get its i ≡ Some it → slice_get p.items i ≡ Some w →
    IsItem p i it (region_in entries it)
is_item p entries its e fine i it w at_it at_w =
    let h = work_of p entries its e i it w at_it at_w in
    record {
      work = w;
      is = at_w;
      same = h.work;
      deferred = h.deferred;
      device = h.device;
      inside = subst (λ ms. InArrays p.lengths ms) h.work.maps (in_arrays p i w fine at_w);
    }
