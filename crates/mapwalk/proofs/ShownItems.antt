-- What an item is shown as.
use Rattle.std.proofs.Common.{◌≡◌, ℕ, List, Option, Some, None, refl, subst}
use Rattle.std.specs.Prelude.{IfNone, option_map, slice_get}
use Rattle.base.specs.declared.item.Item.{Item}
use Rattle.base.specs.Items.{Work}
use Rattle.outline.specs.Regions.{Entry}
use Rattle.outline.specs.Shown.{shown, work_with}

pub record IsOf (item : Item) (w : Work) : Type 0 where
  pub kind : w.kind ≡ item.kind
  pub maps : w.maps ≡ item.maps.items
  pub device : w.device ≡ item.device.number

from_some : (item : Item) (w v : Work) → IsOf item v → ◌≡◌ {A = Option Work} (Some v) (Some w) → IsOf item w
from_some item w v h e = let same : v ≡ w = cc in subst (IsOf item) same h

pub shown_of : (entries : List Entry) (item : Item) (w : Work) → shown entries item ≡ Some w → IsOf item w
shown_of entries item w e = go item.region e
  where
    inner : (o : Option Entry) → option_map (λ (x : Entry). work_with item (Some x.region)) o ≡ Some w → IsOf item w
    inner None e = absurd cc
    inner (Some x) e = from_some item w (work_with item (Some x.region)) (record { kind = refl; maps = refl; device = refl }) e

    go : (o : Option ℕ) → (elim o [
      | None ↦ Some (work_with item None)
      | Some k ↦ option_map (λ (x : Entry). work_with item (Some x.region)) (slice_get entries k)
    ]) ≡ Some w → IsOf item w
    go None e = from_some item w (work_with item None) (record { kind = refl; maps = refl; device = refl }) e
    go (Some k) e = inner (slice_get entries k) e

pub if_none : {X P : Type 0} (o : Option X) → P → IfNone o P
if_none None p = p
if_none (Some x) p = tt

pub map_none : {X P Q : Type 0} (o : Option X) → (P → Q) → IfNone o P → IfNone o Q
map_none None f p = f p
map_none (Some x) f p = tt
