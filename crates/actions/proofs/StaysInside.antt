-- Each cell that an open item copies to the host lies in its array, where its sections do.
use Rattle.std.proofs.Common.{◌≡◌, ℕ, zero, suc, ◌+◌, ◌≤◌, Bool, true, false, List, [], ◌∷◌, Option, Some, None, refl, subst, slice_index, arith}
use Rattle.std.proofs.lemmas.Bool.Decides.{nat_tests}
use Rattle.std.specs.Prelude.{option_map}
use Rattle.std.proofs.lemmas.Bool.{cond_both}
use Rattle.base.specs.declared.item.MapItem.{MapItem}
use Rattle.base.specs.declared.item.ItemKind.{ItemKind}
use Rattle.base.specs.declared.item.ItemKind.TheVariants as kind
use Rattle.base.specs.declared.tree.ArrayId.{ArrayId}
use Rattle.base.specs.Items.{Work}
use Rattle.base.specs.Map.{Block, Presence, Absent, Inside, InPart, presence, copies_to, copies_from}
use Rattle.base.specs.Meaning.{Run}
use Rattle.base.specs.Memory.{end_of}
use Rattle.fine_machine.specs.Left.{OnHost, Enter, Leave, Remove, CopyIn, CopyOut, Left, Finished, Asks, kernel_left, cells_left, section_left, left_if, entry_left, exit_left, update_left, each_left, present_of, item_left}
use Rattle.actions.specs.Opening.{InArrays, StaysInside, IsDone, Goes}
use Rattle.actions.proofs.RegionInside.{region_inside}
use Rattle.actions.proofs.KernelInside.{kernel_inside}

module _ (lengths : List ℕ) where
  abbrev Stays : Left → Type 0
  Stays = StaysInside lengths

  abbrev Rest : Type 0
  Rest = Unit {0} → Left

  -- copies to the device, and copies to the host in an array
  copied_in : (a : ArrayId) (first n : ℕ) (k : Rest) → Stays (k tt) → Stays (cells_left CopyIn a first n k)
  copied_in a first zero k h = h
  copied_in a first (suc n) k h =
      Goes (CopyIn (record { array = a; index = first })) (λ r. cells_left CopyIn a (first + 1) n k) tt
      (λ r. copied_in a (first + 1) n k h)

  copied_out : (a : ArrayId) (first n : ℕ) (k : Rest) → first + n ≤ slice_index lengths a.0 → Stays (k tt) →
      Stays (cells_left CopyOut a first n k)
  copied_out a first zero k within h = h
  copied_out a first (suc n) k within h =
      Goes (CopyOut (record { array = a; index = first })) (λ r. cells_left CopyOut a (first + 1) n k)
      (grind (arith, nat_tests)) (λ r. copied_out a (first + 1) n k (omega (arith, within)) h)

  if_inside : (b : Bool) (first : Rest → Left) (k : Rest) → (Stays (k tt) → Stays (first k)) → Stays (k tt) →
      Stays (left_if b first k)
  if_inside true first k h next = h next
  if_inside false first k h next = next

  abbrev InArray : MapItem → Type 0
  InArray item = end_of item.section ≤ slice_index lengths item.section.array.0

  entry_inside : (item : MapItem) (k : Rest) → InArray item → Stays (k tt) → Stays (entry_left item k)
  entry_inside item k within next =
      Goes (Enter item) (λ r. left_if r.copies (section_left CopyIn item.section) k) tt
      (λ r. if_inside r.copies (section_left CopyIn item.section) k
      (copied_in item.section.array item.section.first item.section.length k) next)

  exit_inside : (item : MapItem) (k : Rest) → InArray item → Stays (k tt) → Stays (exit_left item k)
  exit_inside item k within next =
      Goes (Leave item)
      (λ r. left_if r.copies (section_left CopyOut item.section) (λ u. left_if r.removes removal k)) tt
      (λ r. if_inside r.copies (section_left CopyOut item.section) (λ u. left_if r.removes removal k)
      (copied_out item.section.array item.section.first item.section.length (λ u. left_if r.removes removal k) within)
      (if_inside r.removes removal k (λ h. Goes (Remove item.section) (λ r'. k tt) tt (λ r'. h)) next))
    where
      removal : Rest → Left
      removal l = Asks (Remove item.section) (λ r. l tt)

  update_inside : (item : MapItem) (k : Rest) → InArray item → Stays (k tt) → Stays (update_left item k)
  update_inside item k within next =
      if_inside (copies_to item.kind) (section_left CopyIn item.section)
      (λ u. left_if (copies_from item.kind) (section_left CopyOut item.section) k)
      (copied_in item.section.array item.section.first item.section.length
      (λ u. left_if (copies_from item.kind) (section_left CopyOut item.section) k))
      (if_inside (copies_from item.kind) (section_left CopyOut item.section) k
      (copied_out item.section.array item.section.first item.section.length k within) next)

  -- map items whose sections lie in arrays
  abbrev Within : List MapItem → Type 0
  Within [] = Unit {0}
  Within (item ∷ rest) = InArray item × Within rest

  each_inside : (f : MapItem → Rest → Left) (maps : List MapItem) (k : Rest) →
      ((item : MapItem) (k : Rest) → InArray item → Stays (k tt) → Stays (f item k)) → Within maps → Stays (k tt) →
      Stays (each_left f maps k)
  each_inside f [] k h are next = next
  each_inside f (item ∷ rest) k h are next =
      h item (λ u. each_left f rest k) are.0 (each_inside f rest k h are.1 next)

  within_all : (maps : List MapItem) → InArrays lengths maps → Within maps
  within_all [] h = tt
  within_all (item ∷ rest) h = (h 0 item refl, within_all rest (λ k x e. h (suc k) x e))

  abbrev IfSome : {A : Type 0} → (A → Type 0) → Option A → Type 0
  IfSome P None = Unit {0}
  IfSome P (Some x) = P x

  mapped : {A B : Type 0} (P : A → Type 0) (Q : B → Type 0) (f : A → B) (o : Option A) → ((x : A) → P x → Q (f x)) →
      IfSome P o → IfSome Q (option_map f o)
  mapped P Q f None h p = tt
  mapped P Q f (Some x) h p = h x p

  present_within : (blocks : List Block) (maps : List MapItem) → Within maps → IfSome Within (present_of blocks maps)
  present_within blocks [] are = tt
  present_within blocks (item ∷ rest) are = go (presence blocks item.section) refl (present_within blocks rest are.1)
    where
      go : (p : Presence) → presence blocks item.section ≡ p → IfSome Within (present_of blocks rest) →
          IfSome Within (present_of blocks (item ∷ rest))
      go Absent e h =
          rw (e, present_of)
          (cond_both item.present None (present_of blocks rest) (IfSome Within) (λ _. tt) (λ _. h))
      go (Inside b) e h =
          rw (e, present_of)
          (mapped Within Within (λ xs. item ∷ xs) (present_of blocks rest) (λ xs more. (are.0, more)) h)
      go InPart e h = rw (e, present_of) tt

  item_inside : (order : List ℕ) (w : Work) (blocks : List Block) (s : Run) → InArrays lengths w.maps →
      IfSome Stays (item_left order w blocks s)
  item_inside order w blocks s h = go w.kind refl
    where
      are : Within w.maps
      are = within_all w.maps h

      entries : (k : Rest) → Stays (k tt) → Stays (each_left entry_left w.maps k)
      entries k next = each_inside entry_left w.maps k entry_inside are next

      exits : (k : Rest) → Stays (k tt) → Stays (each_left exit_left w.maps k)
      exits k next = each_inside exit_left w.maps k exit_inside are next

      go : (k : ItemKind) → w.kind ≡ k → IfSome Stays (item_left order w blocks s)
      go kind.Host e = rw (e, item_left) (region_inside lengths w.region OnHost w.loops s Finished (λ t. IsDone t))
      go kind.Target e =
          rw (e, item_left) (entries (λ u. kernel_left order w.region w.loops s
          (λ t. each_left exit_left w.maps (λ u. Finished t)))
          (kernel_inside lengths order w.region w.loops s (λ t. each_left exit_left w.maps (λ u. Finished t))
          (λ t. exits (λ u. Finished t) (IsDone t))))
      go kind.Begin e = rw (e, item_left) (entries (λ u. Finished s) (IsDone s))
      go kind.Enter e = rw (e, item_left) (entries (λ u. Finished s) (IsDone s))
      go kind.End e = rw (e, item_left) (exits (λ u. Finished s) (IsDone s))
      go kind.Exit e = rw (e, item_left) (exits (λ u. Finished s) (IsDone s))
      go kind.Update e =
          rw (e, item_left) (mapped Within Stays (λ present. each_left update_left present (λ u. Finished s))
          (present_of blocks w.maps)
          (λ present more. each_inside update_left present (λ u. Finished s) update_inside more (IsDone s))
          (present_within blocks w.maps are))
      go kind.Wait e = rw (e, item_left) (IsDone s)

  -- what is left of an item that is opened
  pub left_inside : (order : List ℕ) (w : Work) (blocks : List Block) (s : Run) (l : Left) → InArrays lengths w.maps →
      item_left order w blocks s ≡ Some l → StaysInside lengths l
  left_inside order w blocks s l h e = subst (IfSome Stays) e (item_inside order w blocks s h)
