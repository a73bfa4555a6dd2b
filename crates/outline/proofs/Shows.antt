-- What the items with regions stand for.
use Rattle.std.proofs.Common.{◌≡◌, ℕ, Bool, zero, suc, false, List, [], ◌∷◌, ◌++◌, map, length, get_or, Some, ap, ◌∙◌}
use Rattle.std.specs.Prelude.{slice_get, option_map}
use Rattle.base.specs.declared.item.Depend.{Depend}
use Rattle.base.specs.declared.item.MapItem.{MapItem}
use Rattle.base.specs.declared.item.ItemKind.{ItemKind}
use Rattle.base.specs.declared.item.ItemKind.TheVariants.{Host, Target}
use Rattle.base.specs.declared.tree.Place.{Place}
use Rattle.base.specs.declared.tree.Region.{Region}
use Rattle.base.specs.declared.tree.ArrayId.{ArrayId}
use Rattle.base.specs.declared.tree.DependText.{DependText}
use Rattle.base.specs.declared.tree.Target.{Target as TargetText}
use Rattle.base.specs.Items.{Work, host_work, target_work, map_of, region_kind, depends_of, device_of, implicit_maps}
use Rattle.outline.specs.Captures.{arrays_of}
use Rattle.outline.specs.Regions.{Entry}
use Rattle.outline.specs.Walk.{implicit_of}
use Rattle.outline.proofs.Implicit.{implicit_is}

-- a work without its region
abbrev work_at : ItemKind → Place → Bool → ℕ → List MapItem → List Depend → List ℕ → Region → Work
work_at kind place deferred device ms ds ls r =
    record {
      kind = kind;
      place = place;
      deferred = deferred;
      device = device;
      maps = ms;
      depends = ds;
      region = Some r;
      loops = ls;
    }

pub host_shown : (es : List Entry) (k : ℕ) (e : Entry) (device : ℕ) (ms : List MapItem) (ds : List Depend)
    (ls loops : List ℕ) →
    slice_get es k ≡ Some e → device ≡ 0 → ms ≡ [] → ds ≡ [] → ls ≡ loops →
    option_map (λ (f : Entry). work_at Host e.region.place false device ms ds ls f.region) (slice_get es k)
    ≡ Some (host_work e.region loops)
host_shown es k e device ms ds ls loops here device_is ms_is ds_is ls_is =
    (λ i. option_map (λ (f : Entry). work_at Host e.region.place false (device_is i) (ms_is i) (ds_is i) (ls_is i)
    f.region) (here i))

pub target_shown : (es : List Entry) (k : ℕ) (e : Entry) (lengths loops : List ℕ) (t : TargetText)
    (depends : List DependText) (arrays : List ArrayId) (n device : ℕ) (ms : List MapItem) (ds : List Depend)
    (ls : List ℕ) → slice_get es k ≡ Some e → device ≡ device_of loops t.tasking.device → n ≡ length lengths → arrays ≡ arrays_of n e.region →
    depends ≡ t.tasking.depends.items →
    ms ≡ map (map_of region_kind lengths loops) t.maps.items
    ++ implicit_of lengths e.region.place t.maps.items arrays →
    ds ≡ depends_of lengths loops depends → ls ≡ loops →
    option_map
    (λ (e : Entry). work_at Target t.place t.tasking.nowait device ms ds ls e.region) (slice_get es k)
    ≡ Some (target_work lengths t e.region loops)
target_shown es k e lengths loops t depends arrays n device ms ds ls here device_is n_is arrays_is depends_is ms_is ds_is ls_is =
    (λ i. option_map
    (λ (e : Entry). work_at Target t.place t.tasking.nowait (device_is i) (maps i) (waits i) (ls_is i) e.region)
    (here i))
  where
    waits : ds ≡ depends_of lengths loops t.tasking.depends.items
    waits = ds_is ∙ ap (λ xs. depends_of lengths loops xs) depends_is

    maps : ms ≡ map (map_of region_kind lengths loops) t.maps.items
        ++ implicit_maps lengths e.region (map (map_of region_kind lengths loops) t.maps.items)
    maps =
        ms_is
        ∙ ap (λ xs. map (map_of region_kind lengths loops) t.maps.items ++ xs)
        (implicit_is lengths loops e.region t.maps.items arrays n n_is arrays_is)

-- an element whose image is known
pub image_at : {X Y : Type 0} (f : X → Y) (xs : List X) (k : ℕ) (x : X) (y : Y) → slice_get (map f xs) k ≡ Some y →
    x ≡ get_or xs k x → f x ≡ y
image_at f [] k x y h is = cc
image_at f (z ∷ xs) zero x y h is = cc
image_at f (z ∷ xs) (suc k) x y h is = image_at f xs k x y h is
