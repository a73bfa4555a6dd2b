-- A kernel of which the turns may run in any order comes after the entries.
use Rattle.std.proofs.Common.{◌≡◌, ℕ, zero, suc, ◌+◌, ◌<◌, List, [], ◌∷◌, Option, Some, Bool, true, false, refl, ap, sym, ◌∙◌, arith}
use Rattle.base.specs.declared.item.Cell.{Cell}
use Rattle.base.specs.declared.item.Item.{Item}
use Rattle.base.specs.declared.item.ItemKind.TheVariants as kind
use Rattle.base.specs.declared.item.MapItem.{MapItem}
use Rattle.base.specs.declared.tree.ArrayId.{ArrayId}
use Rattle.base.specs.declared.tree.Region.{Region}
use Rattle.std.specs.Prelude.{drop, map}
use Rattle.base.specs.Meaning.{Run}
use Rattle.base.specs.Turns.{turns_at}
use Rattle.fine_machine.specs.Left.{Left, Finished, Asks, Request, CopyIn, Enter, OnDevice, cells_left, each_left, entry_left, exit_left, item_left, kernel_left, left_if, section_left, together, turn_left, unordered_left}
use Rattle.present.specs.declared.Table.{Table}
use Rattle.actions.specs.declared.frame.Frame.{Frame}
use Rattle.actions.specs.declared.frame.Frame.TheVariants as frame
use Rattle.actions.specs.declared.maps.Maps.{Maps}
use Rattle.actions.specs.declared.unordered.Unordered.{Unordered}
use Rattle.actions.specs.Control.{and_kernel, kernel_rest, then_from}
use Rattle.actions.specs.Opening.{IsPut, IsUnordered, is_host}
use Rattle.actions.specs.Rest.{rest_of}
use Rattle.actions.specs.Strand.{side_of}
use Rattle.actions.proofs.Parts.{as_is, work_of}

abbrev Rest : Type 0
Rest = Unit {0} → Left

module _ (k : Run → Left) where
  then_cells : (ask : Cell → Request) (a : ArrayId) (first n : ℕ) (m : Rest) →
      then_from (cells_left ask a first n m) k ≡ cells_left ask a first n (λ u. then_from (m u) k)
  then_cells ask a first zero m = refl
  then_cells ask a first (suc n) m =
      ap (Asks (ask (record { array = a; index = first }))) (λ i r. then_cells ask a (first + 1) n m i)

  then_copies : (b : Bool) (item : MapItem) (m : Rest) →
      then_from (left_if b (section_left CopyIn item.section) m) k
      ≡ left_if b (section_left CopyIn item.section) (λ u. then_from (m u) k)
  then_copies true item m = then_cells CopyIn item.section.array item.section.first item.section.length m
  then_copies false item m = refl

  -- what comes after all entries comes after the last
  pub then_entries : (items : List MapItem) (m : Rest) →
      then_from (each_left entry_left items m) k ≡ each_left entry_left items (λ u. then_from (m u) k)
  then_entries [] m = refl
  then_entries (item ∷ rest) m =
      ap (Asks (Enter item)) (λ i r. then_copies r.copies item (λ u. each_left entry_left rest m) i)
      ∙ ap (entry_left item) (λ i u. then_entries rest m i)

-- a kernel by its depth
deep_kernel : (order : List ℕ) (r : Region) (d : ℕ) (loops : List ℕ) (s : Run) (k : Run → Left) → r.depth ≡ d → 0 < d →
    kernel_left order (Some r) loops s k ≡ unordered_left order d r.body.items loops s k
deep_kernel order r zero loops s k e deep = absurd (omega (arith, deep))
deep_kernel order r (suc d) loops s k e deep = rw (e, kernel_left) refl

pub put_unordered : (it : Item) (r : Option Region) (order : List ℕ) (kernel : Option Unordered) (u : Unordered) (t : Table)
    (maps : Maps) (old new : List Frame) → kernel ≡ Some u → IsUnordered it r u → old ≡ [] →
    maps.items.now ≡ it.maps.items → new ≡ frame.Entries maps ∷ old → IsPut it r order kernel t true new
unfolding rest_of
put_unordered it r order kernel u t maps old new kernel_is h none maps_is new_is w d s work shown =
    let region = h.region in
    let loops = it.loops.values.items in
    let last = λ (x : Run). each_left exit_left it.maps.items (λ v. Finished x) in
    as_is order it r kind.Target w d.blocks s h.kind work
    ∙ ap (λ o. item_left order (work_of it o kind.Target w) d.blocks s) h.is
    ∙ ap (λ l. Some (each_left entry_left it.maps.items (λ v. l)))
    (deep_kernel order region region.depth loops s last refl h.deep
    ∙ (λ i. together order
    (map (turn_left s) (drop (sym h.next i) (turns_at (sym h.depth i) (sym h.body i) (sym h.loops i))))
    (each_left exit_left (sym h.exits i) (λ v. Finished s))))
    ∙ ap (λ xs. Some (each_left entry_left xs (λ v. kernel_rest order u s))) (sym maps_is)
    ∙ ap Some (sym (then_entries (kernel_rest order u) maps.items.now (λ v. Finished s)))
    ∙ ap (λ fs. Some (then_from (rest_of OnDevice (frame.Entries maps ∷ fs) loops 0 s) (kernel_rest order u))) (sym none)
    ∙ ap (λ fs. Some (then_from (rest_of OnDevice fs loops 0 s) (kernel_rest order u))) (sym new_is)
    ∙ ap (λ j. Some (then_from (rest_of (side_of (is_host j)) new loops 0 s) (kernel_rest order u))) (sym h.kind)
    ∙ ap (λ v. Some (and_kernel order v (rest_of (side_of (is_host it.kind)) new loops 0 s))) (sym kernel_is)
