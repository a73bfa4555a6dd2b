-- What is left of an item that was opened.
use Rattle.std.proofs.Common.{◌≡◌, List, Option, Some, None, ℕ, Bool, true, false, Bor, refl, ap, sym, ◌∙◌, subst}
use Rattle.std.specs.Prelude.{option_map}
use Rattle.base.specs.declared.item.Item.{Item}
use Rattle.base.specs.declared.tree.Region.{Region}
use Rattle.base.specs.Items.{Work}
use Rattle.present.proofs.Undone.{own_shown}
use Rattle.present.specs.Table.{device_of}
use Rattle.present.specs.declared.Table.{Table}
use Rattle.actions.specs.declared.control.Control.{Control}
use Rattle.actions.specs.declared.strand.Strand.{Strand}
use Rattle.actions.specs.declared.unordered.Unordered.{Unordered}
use Rattle.actions.specs.declared.frame.Frame.{Frame}
use Rattle.actions.specs.Control.{IsStopped, and_kernel, left_of}
use Rattle.actions.specs.Opening.{InArrays, IsBegun, IsOpened, IsPut, IsRegion, StaysInside, begun_with}
use Rattle.actions.specs.Strand as strand
use Rattle.actions.proofs.StaysInside.{left_inside}

-- the region that the code has
abbrev pub region_now : Option (Bor Region) → Option Region
region_now None = None
region_now (Some e) = Some (e.now)

pub is_region : (o : Option (Bor Region)) → IsRegion o (region_now o)
is_region None = refl
is_region (Some e) = refl

-- an item with its region in full
abbrev full : Item → Option Region → Work
full it r = record {
  kind = it.kind;
  place = it.place;
  deferred = it.deferred;
  device = 0;
  maps = it.maps.items;
  depends = it.depends.items;
  region = r;
  loops = it.loops.values.items;
}

pub opened_inside : (it : Item) (region : Option (Bor Region)) (order scalars input : List ℕ) (t : Table)
    (o : Option Control) →
    ((r : Option Region) → IsRegion region r → IsOpened it r order scalars input t o) → (c : Control) (lengths : List ℕ) →
    o ≡ Some c → InArrays lengths it.maps.items → StaysInside lengths (left_of c)
opened_inside it region order scalars input t o opened c lengths is arrays =
    let r = region_now region in
    let w = full it r in
    let d = device_of t in
    left_inside lengths order w d.blocks (begun_with w scalars input) (left_of c) arrays
    ((opened r (is_region region)).left w d (record { kind = refl; maps = refl; region = refl; loops = refl })
    (own_shown t)
    ∙ ap (option_map left_of) is)

-- its parts, as it begins, up to its first action
pub opened_of : (it : Item) (r : Option Region) (order scalars input : List ℕ) (t : Table) (done : Bool)
    (frames : List Frame) (begun : Strand) (first new : Control) → done ≡ true →
    IsPut it r order first.kernel t done frames → IsBegun it scalars input frames begun →
    left_of first ≡ and_kernel order first.kernel (strand.left_of begun) → left_of new ≡ left_of first → IsStopped new →
    IsOpened it r order scalars input t (Some new)
opened_of it r order scalars input t done frames begun first new is put begins first_is same stopped = record {
  left = λ w d work shown.
      subst (λ b. IsPut it r order first.kernel t b frames) is put w d (begun_with w scalars input) work shown
      ∙ ap Some (sym (same ∙ first_is ∙ ap (and_kernel order first.kernel) (begins w work.kind)));
  stopped = λ c e. subst IsStopped (some_is new c e) stopped;
}
  where
    some_is : (x y : Control) → Some x ≡ Some y → x ≡ y
    some_is x y e = cc

-- an update that fails
pub opened_none : (it : Item) (r : Option Region) (order scalars input : List ℕ) (t : Table) (done : Bool)
    (kernel : Option Unordered) (frames : List Frame) → done ≡ false → IsPut it r order kernel t done frames →
    IsOpened it r order scalars input t None
opened_none it r order scalars input t done kernel frames is put = record {
  left = λ w d work shown.
      subst (λ b. IsPut it r order kernel t b frames) is put w d (begun_with w scalars input) work shown;
  stopped = λ c e. absurd (cc e);
}
