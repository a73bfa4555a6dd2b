-- The first cause that a region makes.
use Rattle.std.proofs.Common.{◌≡◌, Bool, true, false, List, Some, None, refl, sym, ap, ap₂, ◌∙◌, subst, ◌⊎◌, inl, inr}
use Rattle.std.specs.Prelude.{◌&&◌, ◌||◌, not}
use Rattle.std.specs.List.{list_any}
use Rattle.std.proofs.lemmas.Bool.{and_from, and_left, and_right, both_ways, and_parts}
use Rattle.base.specs.declared.item.Cell.{Cell}
use Rattle.base.specs.declared.item.MapItem.{MapItem}
use Rattle.base.specs.declared.item.ItemKind.{ItemKind}
use Rattle.base.specs.declared.item.ItemKind.TheVariants as kind
use Rattle.base.specs.declared.fault.RefusalCode.{RefusalCode}
use Rattle.base.specs.declared.fault.RefusalCode.TheVariants.{OverlapsInPart, ExitOfAbsent, UpdateOfAbsent, NotPresent, Unmapped, HostNotCurrent, DeviceNotCurrent, TurnsMeet, Conflict}
use Rattle.base.specs.Memory.{is_in}
use Rattle.base.specs.Items.{Work}
use Rattle.base.specs.Footprint.{exposes, reads, writes}
use Rattle.base.specs.Current.{Current}
use Rattle.base.specs.Accepted.{is_host, is_target}
use Rattle.base.specs.Actions.{touches_in}
use Rattle.base.specs.Least.{IsLeast}
use Rattle.base.specs.Turns.{turns_in_work, turns_meet}
use Rattle.ranges.specs.declared.cells.Footprint.{Footprint}
use Rattle.ranges.specs.Cells.{has}
use Rattle.mapwalk.specs.Causes.{IsFirstOf, is_less, region_causes}
use Rattle.mapwalk.specs.Regions.{AreTouches}
use Rattle.base.proofs.Leasts.{least_same}

-- the cells that a region reads first and that are not current
abbrev pub stale : Footprint → (Cell → Bool) → Cell → Bool
stale f side c = has f.exposed c && not (side c)

-- the cells that a kernel touches and that no map item has
abbrev pub unmapped : Footprint → List MapItem → Cell → Bool
unmapped f maps c = (has f.read c || has f.write c) && not (list_any (λ m. is_in c m.section) maps)

stale_in : Work → (Cell → Bool) → Cell → Bool
stale_in w side c = exposes (touches_in w) c && not (side c)

unmapped_in : Work → Cell → Bool
unmapped_in w c = (reads (touches_in w) c || writes (touches_in w) c) && not (list_any (λ m. is_in c m.section) w.maps)

exposed_same : (w : Work) (f : Footprint) (side : Cell → Bool) → AreTouches w f → (c : Cell) → stale f side c ≡ stale_in w side c
unfolding stale_in
exposed_same w f side t c = ap (λ b. b && not (side c)) (t.exposed c)

touched_same : (w : Work) (f : Footprint) (maps : List MapItem) → AreTouches w f → w.maps ≡ maps → (c : Cell) →
    unmapped f maps c ≡ unmapped_in w c
unfolding unmapped_in
touched_same w f maps t e c =
    ap₂ (λ r v. (r || v) && not (list_any (λ m. is_in c m.section) maps)) (t.read c) (t.write c)
    ∙ ap (λ ms. (reads (touches_in w) c || writes (touches_in w) c) && not (list_any (λ m. is_in c m.section) ms)) (sym e)

-- a host region makes no cause
pub host_none : (w : Work) (f : Footprint) (k : Current) → w.kind ≡ kind.Host → AreTouches w f → IsLeast (stale f k.host) None →
    IsFirstOf (region_causes w k) None
unfolding stale_in unmapped_in
host_none w f k e t h = all
  where
    all : (code : RefusalCode) (c : Cell) → region_causes w k code c ≡ false
    all OverlapsInPart c = refl
    all ExitOfAbsent c = refl
    all UpdateOfAbsent c = refl
    all NotPresent c = refl
    all Unmapped c = and_left (is_target w.kind) (unmapped_in w c) (ap is_target e)
    all HostNotCurrent c = and_right (is_host w.kind) (stale_in w k.host c) (sym (exposed_same w f k.host t c) ∙ h c)
    all DeviceNotCurrent c = and_left (is_target w.kind) (stale_in w k.device c) (ap is_target e)
    all TurnsMeet c = and_left (is_target w.kind) (turns_meet (turns_in_work w) c) (ap is_target e)
    all Conflict c = refl

-- a host region makes a first cause
pub host_first : (w : Work) (f : Footprint) (k : Current) (cell : Cell) → w.kind ≡ kind.Host → AreTouches w f →
    IsLeast (stale f k.host) (Some cell) →
    IsFirstOf (region_causes w k) (Some (record { code = HostNotCurrent; cell = cell }))
unfolding stale_in unmapped_in
host_first w f k cell e t h = (and_from (is_host w.kind) (stale_in w k.host cell) (ap is_host e) least.0, order)
  where
    least : IsLeast (stale_in w k.host) (Some cell)
    least = least_same (stale f k.host) (stale_in w k.host) (Some cell) (exposed_same w f k.host t) h

    order : (code : RefusalCode) (c : Cell) → region_causes w k code c ≡ true →
        is_less code c (record { code = HostNotCurrent; cell = cell }) ≡ false
    order OverlapsInPart c g = absurd cc
    order ExitOfAbsent c g = absurd cc
    order UpdateOfAbsent c g = absurd cc
    order NotPresent c g = absurd cc
    order Unmapped c g = absurd (both_ways _ (and_left (is_target w.kind) (unmapped_in w c) (ap is_target e)) g)
    order HostNotCurrent c g = least.1 c (and_parts (is_host w.kind) (stale_in w k.host c) g).1
    order DeviceNotCurrent c g = refl
    order TurnsMeet c g = refl
    order Conflict c g = refl

-- a kernel makes no cause
pub kernel_none : (w : Work) (f : Footprint) (k : Current) (maps : List MapItem) → w.kind ≡ kind.Target → w.maps ≡ maps →
    AreTouches w f → IsLeast (unmapped f maps) None → IsLeast (stale f k.device) None → f.meeting ≡ None →
    IsFirstOf (region_causes w k) None
unfolding stale_in unmapped_in
kernel_none w f k maps e m t u h apart = all
  where
    never : IsLeast (turns_meet (turns_in_work w)) None
    never = subst (IsLeast (turns_meet (turns_in_work w))) apart t.meeting

    all : (code : RefusalCode) (c : Cell) → region_causes w k code c ≡ false
    all OverlapsInPart c = refl
    all ExitOfAbsent c = refl
    all UpdateOfAbsent c = refl
    all NotPresent c = refl
    all Unmapped c = and_right (is_target w.kind) (unmapped_in w c) (sym (touched_same w f maps t m c) ∙ u c)
    all HostNotCurrent c = and_left (is_host w.kind) (stale_in w k.host c) (ap is_host e)
    all DeviceNotCurrent c = and_right (is_target w.kind) (stale_in w k.device c) (sym (exposed_same w f k.device t c) ∙ h c)
    all TurnsMeet c = and_right (is_target w.kind) (turns_meet (turns_in_work w) c) (never c)
    all Conflict c = refl

-- a kernel touches what no map item has
pub kernel_unmapped : (w : Work) (f : Footprint) (k : Current) (maps : List MapItem) (cell : Cell) → w.kind ≡ kind.Target →
    w.maps ≡ maps → AreTouches w f → IsLeast (unmapped f maps) (Some cell) →
    IsFirstOf (region_causes w k) (Some (record { code = Unmapped; cell = cell }))
unfolding unmapped_in
kernel_unmapped w f k maps cell e m t u = (and_from (is_target w.kind) (unmapped_in w cell) (ap is_target e) least.0, order)
  where
    least : IsLeast (unmapped_in w) (Some cell)
    least = least_same (unmapped f maps) (unmapped_in w) (Some cell) (touched_same w f maps t m) u

    order : (code : RefusalCode) (c : Cell) → region_causes w k code c ≡ true →
        is_less code c (record { code = Unmapped; cell = cell }) ≡ false
    order OverlapsInPart c g = absurd cc
    order ExitOfAbsent c g = absurd cc
    order UpdateOfAbsent c g = absurd cc
    order NotPresent c g = absurd cc
    order Unmapped c g = least.1 c (and_parts (is_target w.kind) (unmapped_in w c) g).1
    order HostNotCurrent c g = refl
    order DeviceNotCurrent c g = refl
    order TurnsMeet c g = refl
    order Conflict c g = refl

-- a kernel reads first what is not current on the device
pub kernel_stale : (w : Work) (f : Footprint) (k : Current) (maps : List MapItem) (cell : Cell) → w.kind ≡ kind.Target →
    w.maps ≡ maps → AreTouches w f → IsLeast (unmapped f maps) None → IsLeast (stale f k.device) (Some cell) →
    IsFirstOf (region_causes w k) (Some (record { code = DeviceNotCurrent; cell = cell }))
unfolding stale_in unmapped_in
kernel_stale w f k maps cell e m t u h =
    (and_from (is_target w.kind) (stale_in w k.device cell) (ap is_target e) least.0, order)
  where
    least : IsLeast (stale_in w k.device) (Some cell)
    least = least_same (stale f k.device) (stale_in w k.device) (Some cell) (exposed_same w f k.device t) h

    order : (code : RefusalCode) (c : Cell) → region_causes w k code c ≡ true →
        is_less code c (record { code = DeviceNotCurrent; cell = cell }) ≡ false
    order OverlapsInPart c g = absurd cc
    order ExitOfAbsent c g = absurd cc
    order UpdateOfAbsent c g = absurd cc
    order NotPresent c g = absurd cc
    order Unmapped c g =
        absurd (both_ways _ (and_right (is_target w.kind) (unmapped_in w c) (sym (touched_same w f maps t m c) ∙ u c)) g)
    order HostNotCurrent c g = absurd (both_ways _ (and_left (is_host w.kind) (stale_in w k.host c) (ap is_host e)) g)
    order DeviceNotCurrent c g = least.1 c (and_parts (is_target w.kind) (stale_in w k.device c) g).1
    order TurnsMeet c g = refl
    order Conflict c g = refl

-- turns of a kernel meet
pub kernel_meets : (w : Work) (f : Footprint) (k : Current) (maps : List MapItem) (cell : Cell) → w.kind ≡ kind.Target →
    w.maps ≡ maps → AreTouches w f → IsLeast (unmapped f maps) None → IsLeast (stale f k.device) None →
    f.meeting ≡ Some cell → IsFirstOf (region_causes w k) (Some (record { code = TurnsMeet; cell = cell }))
unfolding stale_in unmapped_in
kernel_meets w f k maps cell e m t u h meets =
    (and_from (is_target w.kind) (turns_meet (turns_in_work w) cell) (ap is_target e) least.0, order)
  where
    least : IsLeast (turns_meet (turns_in_work w)) (Some cell)
    least = subst (IsLeast (turns_meet (turns_in_work w))) meets t.meeting

    order : (code : RefusalCode) (c : Cell) → region_causes w k code c ≡ true →
        is_less code c (record { code = TurnsMeet; cell = cell }) ≡ false
    order OverlapsInPart c g = absurd cc
    order ExitOfAbsent c g = absurd cc
    order UpdateOfAbsent c g = absurd cc
    order NotPresent c g = absurd cc
    order Unmapped c g =
        absurd (both_ways _ (and_right (is_target w.kind) (unmapped_in w c) (sym (touched_same w f maps t m c) ∙ u c)) g)
    order HostNotCurrent c g = absurd (both_ways _ (and_left (is_host w.kind) (stale_in w k.host c) (ap is_host e)) g)
    order DeviceNotCurrent c g =
        absurd (both_ways _ (and_right (is_target w.kind) (stale_in w k.device c) (sym (exposed_same w f k.device t c) ∙ h c)) g)
    order TurnsMeet c g = least.1 c (and_parts (is_target w.kind) (turns_meet (turns_in_work w) c) g).1
    order Conflict c g = absurd cc

-- nor does an item that is neither a kernel nor on the host
pub other_none : (w : Work) (k : Current) → is_target w.kind ≡ false → is_host w.kind ≡ false → IsFirstOf (region_causes w k) None
unfolding stale_in unmapped_in
other_none w k t h = all
  where
    all : (code : RefusalCode) (c : Cell) → region_causes w k code c ≡ false
    all OverlapsInPart c = refl
    all ExitOfAbsent c = refl
    all UpdateOfAbsent c = refl
    all NotPresent c = refl
    all Unmapped c = and_left (is_target w.kind) (unmapped_in w c) t
    all HostNotCurrent c = and_left (is_host w.kind) (stale_in w k.host c) h
    all DeviceNotCurrent c = and_left (is_target w.kind) (stale_in w k.device c) t
    all TurnsMeet c = and_left (is_target w.kind) (turns_meet (turns_in_work w) c) t
    all Conflict c = refl

-- the kinds of such items
pub neither : (k : ItemKind) →
    (k ≡ kind.Begin) ⊎ ((k ≡ kind.End) ⊎ ((k ≡ kind.Enter) ⊎ ((k ≡ kind.Exit) ⊎ ((k ≡ kind.Update) ⊎ (k ≡ kind.Wait))))) →
    (is_target k ≡ false) × (is_host k ≡ false)
neither k (inl e) = (ap is_target e, ap is_host e)
neither k (inr (inl e)) = (ap is_target e, ap is_host e)
neither k (inr (inr (inl e))) = (ap is_target e, ap is_host e)
neither k (inr (inr (inr (inl e)))) = (ap is_target e, ap is_host e)
neither k (inr (inr (inr (inr (inl e))))) = (ap is_target e, ap is_host e)
neither k (inr (inr (inr (inr (inr e))))) = (ap is_target e, ap is_host e)
