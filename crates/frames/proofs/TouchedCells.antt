-- A region depends on the cells that it may touch alone, and stores in cells of its arrays.
use Rattle.std.proofs.Common.{◌≡◌, ◌⊎◌, ℕ, ◌-◌, ◌≤◌, Bool, true, false, List, [], ◌∷◌, Option, Some, None, refl, sym, ap, ◌∙◌, inl, inr, arith}
use Rattle.std.specs.Prelude.{IsSome, ◌&&◌, not, option_map, slice_get, slice_index, unwrap_or, if◌then◌else◌}
use Rattle.std.specs.List.{list_any}
use Rattle.std.proofs.lemmas.Bool.{and_parts, ltb-true, or_left, or_right, false≢true, or_cases}
use Rattle.base.specs.declared.item.Cell.{Cell}
use Rattle.base.specs.declared.item.Section.{Section}
use Rattle.base.specs.Memory.{View, Stores, end_of, is_cell, is_in, last_stored, same_cell, view_of}
use Rattle.base.specs.Meaning.{Run, run_region}
use Rattle.base.specs.Footprint.{Touch, has_cell, reads, touches_of, writes}
use Rattle.kernel.specs.Kept.{Kept, kept_of}
use Rattle.present.specs.Rows.{over}
use Rattle.present.specs.Table.{number_at}
use Rattle.base.proofs.Sections.{in_from}
use Rattle.regions.specs.Footprints.{StoresIn}
use Rattle.regions.proofs.FootprintsHold.{all_met, region_outcome}
use Rattle.regions.proofs.Needs.{Every}
use Rattle.regions.proofs.Ranges.{InRange, region_in_range, touched_cell}
use Rattle.regions.proofs.StatementOutcomes.{whether}
use Rattle.regions.proofs.StatementsDone.{small_list}
use Rattle.ranges.specs.Reach.{cell_of, is_touched}
use Rattle.frames.specs.Reach.{HasTouched, in_reach, is_reached}
use Rattle.frames.specs.Views.{every}
use Rattle.frames.specs.Laws.{HostFrameMeans, KernelFrameMeans, LeastRunsReach, StoresAreCells, TouchedCellsDecide}
use Rattle.frames.proofs.RowViews.{past_end}
use Rattle.frames.proofs.StoredRows.{array_there}
use Rattle.kernel.proofs.SeenStores.{same_cell_is}

pub touched_cells_decide : TouchedCellsDecide
touched_cells_decide r loops u v scalars input n b h =
    (region_outcome u v (writes (touches_of r loops)) b r loops scalars input (small_list loops n.small_loops)
    n.small_scalars (small_list input n.small_input)
    (all_met u v (writes (touches_of r loops)) (touches_of r loops)
    (λ c k. h c (or_left (reads (touches_of r loops) c) (writes (touches_of r loops) c) k))
    (λ c k. ap whether (h c (or_right (reads (touches_of r loops) c) (writes (touches_of r loops) c) k)))
    (λ c k. k))).same

-- what is in reach of a view at a cell in reach
pub reached_same : (reach : List Section) (view : View) (c : Cell) → is_reached reach c ≡ true →
    in_reach reach view c ≡ view c
reached_same reach view c e = ap (λ (t : Bool). if t then view c else None) e

pub host_frame_means : HostFrameMeans
host_frame_means r loops lengths reach memory u scalars input n b h e =
    touched_cells_decide r loops u (view_of lengths memory) scalars input n b
    (λ c k. ap (λ (f : View). f c) e ∙ reached_same reach (view_of lengths memory) c (h c k))

pub kernel_frame_means : KernelFrameMeans
kernel_frame_means r loops reach t d u scalars input n b h shows stored e =
    touched_cells_decide r loops u d.cells scalars input n b same
  where
    same : (c : Cell) → is_touched (touches_of r loops) c ≡ true → u c ≡ d.cells c
    same c k = go (d.cells c) refl (stored c k)
      where
        go : (o : Option ℕ) → d.cells c ≡ o → IsSome o → u c ≡ d.cells c
        go None f s = absurd (cc s)
        go (Some x) f s =
            ap (λ (g : View). g c) e
            ∙ reached_same reach (over (number_at t) (every 0)) c (h c k)
            ∙ ap (λ o. Some (unwrap_or o 0)) (sym (shows.numbers c) ∙ f)
            ∙ sym f

-- A touched cell is a cell of its array.

one_touches : (lengths : List ℕ) (c : Cell) (p : Touch → Bool) →
    ((t : Touch) → p t ≡ true → has_cell c t ≡ true) → (xs : List Touch) →
    Every (InRange lengths) xs → list_any p xs ≡ true → is_cell lengths c ≡ true
one_touches lengths c p q [] g e = absurd (false≢true e)
one_touches lengths c p q (t ∷ xs) g e = go (λ f. one_touches lengths c p q xs g.1 f) (or_cases (p t) (list_any p xs) e)
  where
    go : (list_any p xs ≡ true → is_cell lengths c ≡ true) → (p t ≡ true) ⊎ (list_any p xs ≡ true) →
        is_cell lengths c ≡ true
    go again (inl f) = touched_cell lengths t c g.0 (q t f)
    go again (inr f) = again f

touched_is : (lengths : List ℕ) (xs : List Touch) (c : Cell) → Every (InRange lengths) xs →
    is_touched xs c ≡ true → is_cell lengths c ≡ true
touched_is lengths xs c h k = by_both (or_cases (reads xs c) (writes xs c) k)
  where
    by_both : (reads xs c ≡ true) ⊎ (writes xs c ≡ true) → is_cell lengths c ≡ true
    by_both (inl e) = one_touches lengths c (λ t. not t.is_write && has_cell c t)
        (λ t f. (and_parts (not t.is_write) (has_cell c t) f).1) xs h e
    by_both (inr e) = one_touches lengths c (λ t. t.is_write && has_cell c t)
        (λ t f. (and_parts t.is_write (has_cell c t) f).1) xs h e

pub least_runs_reach : LeastRunsReach
least_runs_reach r loops lengths p reach fine same h = record {
  runs = record { count = h.count; of_arrays = h.of_arrays; within = within };
  touched = touched;
}
  where
    is : (c : Cell) → is_touched (touches_of r loops) c ≡ true → is_cell lengths c ≡ true
    is c k = touched_is lengths (touches_of r loops) c (region_in_range lengths loops r fine) k

    within : (a : ℕ) (s : Section) → slice_get reach a ≡ Some s → 1 ≤ s.length → end_of s ≤ slice_index lengths a
    within a s e some =
        let last = cell_of a (end_of s - 1) in
        let k = is last (sym (same last) ∙ (h.least a s e).last some) in
        let l = ltb-true (end_of s - 1) (slice_index lengths a) k in
        omega arith

    touched : HasTouched reach (touches_of r loops)
    touched c k = go (slice_get reach c.array.0) refl
      where
        cell : is_cell lengths c ≡ true
        cell = is c k

        go : (o : Option Section) → slice_get reach c.array.0 ≡ o → is_reached reach c ≡ true
        go None e =
            let l = past_end reach c.array.0 e in
            let m = array_there lengths c (is c k) in
            let n = h.count in
            absurd (omega arith)
        go (Some s) e =
            let one = h.least c.array.0 s e in
            let passes = same c ∙ k in
            ap (λ (o : Option Section). elim o [ None ↦ false | Some s ↦ is_in c s ]) e
            ∙ in_from c s (record {
              array = sym (h.of_arrays c.array.0 s e);
              above = one.from c.index passes;
              below = one.below c.index passes;
            })

-- Stores.

-- what was stored last in a cell was stored where the test holds
pub last_in : (p : Cell → Bool) (stores : Stores) → StoresIn p stores → (c : Cell) (n : ℕ) →
    last_stored stores c ≡ Some n → p c ≡ true
last_in p [] h c n e = absurd (cc e)
last_in p (x ∷ later) h c n e = go (λ f. last_in p later h.rest c n f) (last_stored later c) refl
  where
    first : (t : Bool) → same_cell x.0 c ≡ t → (if t then Some x.1 else None) ≡ Some n → p c ≡ true
    first false f g = absurd (cc g)
    first true f g = ap p (sym (same_cell_is x.0 c f)) ∙ h.here

    go : (last_stored later c ≡ Some n → p c ≡ true) → (o : Option ℕ) → last_stored later c ≡ o → p c ≡ true
    go again (Some v) f =
        again (f ∙ (sym (ap (λ o. elim o [ Some w ↦ Some w | None ↦ if same_cell x.0 c then Some x.1 else None ]) f) ∙ e))
    go again None f =
        first (same_cell x.0 c) refl
        (sym (ap (λ o. elim o [ Some w ↦ Some w | None ↦ if same_cell x.0 c then Some x.1 else None ]) f) ∙ e)

pub stores_are_cells : StoresAreCells
stores_are_cells r loops lengths u scalars input k n b fine kept c m f = go (run_region r loops u scalars input) refl
  where
    go : (o : Option Run) → run_region r loops u scalars input ≡ o → is_cell lengths c ≡ true
    go None e = absurd (cc (sym (ap (option_map kept_of) e) ∙ kept))
    go (Some run) e =
        let is : ◌≡◌ {A = Option Kept} (Some (kept_of run)) (Some k) = sym (ap (option_map kept_of) e) ∙ kept in
        let same : kept_of run ≡ k = cc is in
        let within = ((region_outcome u u (writes (touches_of r loops)) b r loops scalars input
        (small_list loops n.small_loops) n.small_scalars (small_list input n.small_input)
        (all_met u u (writes (touches_of r loops)) (touches_of r loops) (λ c h. refl) (λ c h. refl) (λ c h. h))).sound run e).within in
        let written = last_in (writes (touches_of r loops)) run.stores within c m
        (ap (λ (x : Kept). x.stored c) same ∙ f) in
        touched_is lengths (touches_of r loops) c (region_in_range lengths loops r fine)
        (or_right (reads (touches_of r loops) c) (writes (touches_of r loops) c) written)
