-- The cells that a region touches are cells of arrays.
use Rattle.std.proofs.Common.{◌≡◌, ℕ, ◌==◌, Bool, true, false, List, [], ◌∷◌, map, Option, Some, None, refl, sym, ap, ◌∙◌, arith, ⊎_elim}
use Rattle.std.specs.Prelude.{nat_lt, nat_le, not, ◌&&◌, if◌then◌else◌, filter, slice_get, slice_index, option_map}
use Rattle.std.specs.List.{list_any}
use Rattle.std.proofs.lemmas.Bool.{eqb-true, and_parts, or_cases}
use Rattle.std.proofs.lemmas.Bool.Decides.{nat_tests}
use Rattle.std.proofs.lemmas.Option.{slice_get-map}
use Rattle.base.specs.declared.item.Cell.{Cell}
use Rattle.base.specs.declared.item.Item.{Item}
use Rattle.base.specs.declared.tree.Region.{Region}
use Rattle.base.specs.Memory.{is_cell}
use Rattle.base.specs.Items.{Work}
use Rattle.base.specs.Footprint.{Touch, exposes, has_cell, is_sure, leaves_array, reads, surely_writes, touches_of, writes}
use Rattle.base.specs.Accepted.{range_faults, region_faults, subscript_fault}
use Rattle.base.specs.Actions.{touches_in}
use Rattle.outline.specs.declared.RegionEntry.{RegionEntry}
use Rattle.outline.specs.Regions.{Entry, entry_of}
use Rattle.outline.specs.Shown.{shown, work_with}
use Rattle.ranges.specs.declared.cells.Footprint.{Footprint}
use Rattle.ranges.specs.Cells.{has}
use Rattle.mapwalk.specs.Regions.{IsWithin}
use Rattle.base.proofs.Nils.{nil_parts}

-- an item with no fault of range has none in its region
pub no_region_fault : (lengths : List ℕ) (w : Work) → range_faults lengths w ≡ [] → region_faults lengths w.loops w.region ≡ []
no_region_fault lengths w e = (nil_parts _ (region_faults lengths w.loops w.region) e).1

in_array : (lengths : List ℕ) (a b i hi : ℕ) → a ≡ b → nat_le (slice_index lengths a) hi ≡ false → nat_le i hi ≡ true →
    nat_lt i (slice_index lengths b) ≡ true
in_array lengths a b i hi e far low =
    let same : slice_index lengths a ≡ slice_index lengths b = ap (slice_index lengths) e in
    between (slice_index lengths a) (slice_index lengths b) i hi same far low
  where
    between : (m n i hi : ℕ) → m ≡ n → nat_le m hi ≡ false → nat_le i hi ≡ true → nat_lt i n ≡ true
    between m n i hi e f l = grind (arith, nat_tests)

touch_inside : (lengths : List ℕ) (t : Touch) (c : Cell) → leaves_array lengths t ≡ false → has_cell c t ≡ true →
    is_cell lengths c ≡ true
touch_inside lengths t c far has =
    let same : t.array.0 ≡ c.array.0 = eqb-true t.array.0 c.array.0 (and_parts (t.array.0 == c.array.0) _ has).0 in
    let low : nat_le c.index t.cells.hi ≡ true = (and_parts (nat_le t.cells.lo c.index) (nat_le c.index t.cells.hi)
    (and_parts (t.array.0 == c.array.0) _ has).1).1 in
    in_array lengths t.array.0 c.array.0 c.index t.cells.hi same far low

abbrev NoneLeaves : List ℕ → List Touch → Type 0
NoneLeaves lengths [] = Unit {0}
NoneLeaves lengths (t ∷ rest) = (leaves_array lengths t ≡ false) × NoneLeaves lengths rest

none_leaves : (lengths : List ℕ) (touches : List Touch) → map subscript_fault (filter (leaves_array lengths) touches) ≡ [] →
    NoneLeaves lengths touches
none_leaves lengths [] e = tt
none_leaves lengths (t ∷ rest) e = go (none_leaves lengths rest) (leaves_array lengths t) refl e
  where
    go : (map subscript_fault (filter (leaves_array lengths) rest) ≡ [] → NoneLeaves lengths rest) → (b : Bool) →
        leaves_array lengths t ≡ b →
        map subscript_fault (if b then t ∷ filter (leaves_array lengths) rest else filter (leaves_array lengths) rest) ≡ [] →
        (leaves_array lengths t ≡ false) × NoneLeaves lengths rest
    go later true h e = absurd cc
    go later false h e = (h, later e)

pub none_of_region : (lengths loops : List ℕ) (r : Region) → region_faults lengths loops (Some r) ≡ [] →
    NoneLeaves lengths (touches_of r loops)
none_of_region lengths loops r e = none_leaves lengths (touches_of r loops) (nil_parts _ _ e).1

any_inside : (lengths : List ℕ) (c : Cell) (g : Touch → Bool) → ((t : Touch) → g t ≡ true → has_cell c t ≡ true) →
    (touches : List Touch) → NoneLeaves lengths touches → list_any g touches ≡ true → is_cell lengths c ≡ true
any_inside lengths c g h [] none e = absurd cc
any_inside lengths c g h (t ∷ rest) none e =
    ⊎_elim (λ x. touch_inside lengths t c none.0 (h t x)) (any_inside lengths c g h rest none.1)
    (or_cases (g t) (list_any g rest) e)

exposes_inside : (lengths : List ℕ) (c : Cell) (touches : List Touch) → NoneLeaves lengths touches → exposes touches c ≡ true →
    is_cell lengths c ≡ true
exposes_inside lengths c [] none e = absurd cc
exposes_inside lengths c (t ∷ rest) none e =
    ⊎_elim
    (λ x. touch_inside lengths t c none.0 (and_parts (not t.is_write) (has_cell c t) x).1)
    (exposes_inside lengths c rest none.1)
    (or_cases (not t.is_write && has_cell c t) (exposes rest c) (and_parts (not (is_sure c t)) _ e).1)

abbrev touches_with : List ℕ → Option Region → List Touch
touches_with loops None = []
touches_with loops (Some r) = touches_of r loops

-- each cell that a region with no fault of range exposes is one of an array
pub exposed_inside : (lengths : List ℕ) (w : Work) (c : Cell) → range_faults lengths w ≡ [] → exposes (touches_in w) c ≡ true →
    is_cell lengths c ≡ true
exposed_inside lengths w c e h = go w.region (no_region_fault lengths w e) h
  where
    go : (o : Option Region) → region_faults lengths w.loops o ≡ [] → exposes (touches_with w.loops o) c ≡ true → is_cell lengths c ≡ true
    go None e h = absurd cc
    go (Some r) e h = exposes_inside lengths c (touches_of r w.loops) (none_of_region lengths w.loops r e) h

pub all_inside : (lengths loops : List ℕ) (r : Region) (f : Footprint) → region_faults lengths loops (Some r) ≡ [] →
    ((c : Cell) → has f.exposed c ≡ exposes (touches_of r loops) c) → ((c : Cell) → has f.read c ≡ reads (touches_of r loops) c) →
    ((c : Cell) → has f.write c ≡ writes (touches_of r loops) c) →
    ((c : Cell) → has f.sure c ≡ surely_writes (touches_of r loops) c) → IsWithin lengths f
all_inside lengths loops r f e exposed read write sure =
    let none = none_of_region lengths loops r e in
    let touches = touches_of r loops in
    record {
      exposed = λ c h. exposes_inside lengths c touches none (sym (exposed c) ∙ h);
      read = λ c h. any_inside lengths c (λ t. not t.is_write && has_cell c t)
          (λ t x. (and_parts (not t.is_write) (has_cell c t) x).1) touches none (sym (read c) ∙ h);
      write = λ c h. any_inside lengths c (λ t. t.is_write && has_cell c t)
          (λ t x. (and_parts t.is_write (has_cell c t) x).1) touches none (sym (write c) ∙ h);
      sure = λ c h. any_inside lengths c (is_sure c)
          (λ t x. (and_parts _ (has_cell c t) (and_parts t.certain _ (and_parts t.is_write _ x).1).1).1) touches none
          (sym (sure c) ∙ h);
    }

-- what an item with this region is shown as
pub shown_is : (regions : List RegionEntry) (entries : List Entry) (item : Item) (k : ℕ) (e : RegionEntry) →
    map entry_of regions ≡ entries → item.region ≡ Some k → slice_get regions k ≡ Some e →
    shown entries item ≡ Some (work_with item (Some e.region.now))
shown_is regions entries item k e are number held = rw number there
  where
    there : option_map (λ (x : Entry). work_with item (Some x.region)) (slice_get entries k)
        ≡ Some (work_with item (Some e.region.now))
    there =
        ap (λ es. option_map (λ (x : Entry). work_with item (Some x.region)) (slice_get es k)) (sym are)
        ∙ ap (option_map (λ (x : Entry). work_with item (Some x.region)))
        (slice_get-map entry_of regions k ∙ ap (option_map entry_of) held)

pub same_work : (a b : Work) (o : Option Work) → o ≡ Some a → o ≡ Some b → a ≡ b
same_work a b o e f = let x : ◌≡◌ {A = Option Work} (Some a) (Some b) = sym e ∙ f in cc
