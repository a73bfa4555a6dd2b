-- What is left of an item that is opened leaves all that it enters and rests.
use Rattle.std.proofs.Common.{◌≡◌, ◌⊎◌, ℕ, zero, suc, ◌+◌, Bool, true, false, List, [], ◌∷◌, ◌++◌, Option, Some, None, refl, sym, ◌∙◌, ap, inl, inr, subst, append-nil, append_assoc}
use Rattle.std.specs.Prelude.{◌&&◌, filter, slice_get, if◌then◌else◌}
use Rattle.std.proofs.lemmas.Bool.{cases_Bool, and_parts, cond-true, cond-false}
use Rattle.base.specs.declared.tree.ArrayId.{ArrayId}
use Rattle.base.specs.declared.tree.Region.{Region}
use Rattle.base.specs.declared.item.Cell.{Cell}
use Rattle.base.specs.declared.item.MapItem.{MapItem}
use Rattle.base.specs.declared.item.ItemKind.{ItemKind}
use Rattle.base.specs.declared.item.ItemKind.TheVariants as kind
use Rattle.base.specs.Meaning.{Run}
use Rattle.base.specs.Items.{Work, Plan}
use Rattle.base.specs.Map.{Block, copies_to, copies_from}
use Rattle.base.specs.Footprint.{touches_of}
use Rattle.base.specs.Actions.{rests}
use Rattle.base.specs.Accepted.{is_target}
use Rattle.fine_machine.specs.Left.{Side, OnHost, Enter, Request, Remove, CopyIn, CopyOut, Answer, Left, Finished, Asks, region_left, cells_left, section_left, left_if, entry_left, exit_left, update_left, each_left, present_of, kernel_left, item_left}
use Rattle.regions.proofs.StatementsDone.{AllSmall, Fine, small_list}
use Rattle.regions.proofs.ValueBounds.{IfThere, there_map}
use Rattle.two_memories.specs.Two.{IsLawful, blocks_before}
use Rattle.two_memories.proofs.PlanItems.{at_item}
use Rattle.fine_headline.specs.FineState.{is_resting, entered_now, all_but_first, OwnEntry, LeavesAll}
use Rattle.fine_headline.proofs.Regional.{list_all}
use Rattle.fine_headline.proofs.KernelKeeps.{kernel_keeps}
use Rattle.fine_headline.proofs.BoundedLefts.{anything, all_allowed}

abbrev Rest : Type 0
Rest = Unit {0} → Left

-- a map item of those that pass a test is one of the filtered
pub filtered : (r : MapItem → Bool) (maps : List MapItem) (k : ℕ) (m : MapItem) → slice_get maps k ≡ Some m →
    r m ≡ true → (q : ℕ) × (slice_get (filter r maps) q ≡ Some m)
filtered r [] k m e h = absurd (cc e)
filtered r (x ∷ rest) zero m e h =
    let is : x ≡ m = cc e in
    (0, ap (λ xs. slice_get xs 0) (cond-true (r x) (x ∷ filter r rest) (filter r rest) (ap r is ∙ h)) ∙ e)
filtered r (x ∷ rest) (suc k) m e h = go (filtered r rest k m e h) (cases_Bool (r x))
  where
    go : (q : ℕ) × (slice_get (filter r rest) q ≡ Some m) → (r x ≡ true) ⊎ (r x ≡ false) →
        (q : ℕ) × (slice_get (filter r (x ∷ rest)) q ≡ Some m)
    go p (inl t) =
        (suc p.0, ap (λ xs. slice_get xs (suc p.0)) (cond-true (r x) (x ∷ filter r rest) (filter r rest) t) ∙ p.1)
    go p (inr t) = (p.0, ap (λ xs. slice_get xs p.0) (cond-false (r x) (x ∷ filter r rest) (filter r rest) t) ∙ p.1)

module _ (plan : Plan) (i : ℕ) where
  region_leaves : (o : Option Region) (side : Side) (loops : List ℕ) (s : Run) (k : Run → Left) (ms : List MapItem) →
      AllSmall loops → Fine s → ((t : Run) → Fine t → LeavesAll plan i ms (k t)) →
      LeavesAll plan i ms (region_left o side loops s k)
  region_leaves None side loops s k ms l f next = next s f
  region_leaves (Some r) side loops s k ms l f next =
      list_all (λ mark. anything) (λ mark. anything) side (LeavesAll plan i ms) (λ c k _ h. (tt, h))
      (λ c n k _ small h. (tt, λ a _. h a)) (λ op c n k _ small h. (tt, λ a _. h a)) r.body.items loops l (all_allowed (touches_of r loops)) s k f next

  kernel_leaves : (order : List ℕ) (o : Option Region) (loops : List ℕ) (s : Run) (k : Run → Left) (ms : List MapItem) →
      AllSmall loops → Fine s → ((t : Run) → Fine t → LeavesAll plan i ms (k t)) →
      LeavesAll plan i ms (kernel_left order o loops s k)
  kernel_leaves order None loops s k ms l f next = next s f
  kernel_leaves order (Some r) loops s k ms l f next =
      kernel_keeps (λ mark. anything) (λ mark. anything) (LeavesAll plan i ms) (λ c k _ h. (tt, h))
      (λ c n k _ small h. (tt, λ a _. h a)) (λ op c n k _ small h. (tt, λ a _. h a)) order r loops s k l (all_allowed (touches_of r loops)) f next

  cells_leave : (ask : Cell → Request) (a : ArrayId) (first n : ℕ) (k : Rest) (ms : List MapItem) →
      ((c : Cell) → OwnEntry plan i (ask c) × (entered_now (is_resting plan i) (ask c) ms ≡ ms)) →
      LeavesAll plan i ms (k tt) → LeavesAll plan i ms (cells_left ask a first n k)
  cells_leave ask a first zero k ms h next = next
  cells_leave ask a first (suc n) k ms h next =
      let c : Cell = record { array = a; index = first } in (
        (h c).0,
        λ r _. subst (λ xs. LeavesAll plan i xs (cells_left ask a (first + 1) n k)) (sym (h c).1)
            (cells_leave ask a (first + 1) n k ms h next),
      )

  if_leaves : (b : Bool) (first : Rest → Left) (k : Rest) (ms : List MapItem) →
      (LeavesAll plan i ms (k tt) → LeavesAll plan i ms (first k)) → LeavesAll plan i ms (k tt) →
      LeavesAll plan i ms (left_if b first k)
  if_leaves true first k ms h next = h next
  if_leaves false first k ms h next = next

  copies_in : (item : MapItem) (k : Rest) (ms : List MapItem) → LeavesAll plan i ms (k tt) →
      LeavesAll plan i ms (section_left CopyIn item.section k)
  copies_in item k ms =
      cells_leave CopyIn item.section.array item.section.first item.section.length k ms (λ c. (tt, refl))

  copies_out : (item : MapItem) (k : Rest) (ms : List MapItem) → LeavesAll plan i ms (k tt) →
      LeavesAll plan i ms (section_left CopyOut item.section k)
  copies_out item k ms =
      cells_leave CopyOut item.section.array item.section.first item.section.length k ms (λ c. (tt, refl))

  entry_leaves : (item : MapItem) (k : Rest) (ms : List MapItem) → OwnEntry plan i (Enter item) →
      LeavesAll plan i (if is_resting plan i item then ms ++ item ∷ [] else ms) (k tt) →
      LeavesAll plan i ms (entry_left item k)
  entry_leaves item k ms own next = (
    own,
    λ a _. if_leaves a.copies (section_left CopyIn item.section) k
        (if is_resting plan i item then ms ++ item ∷ [] else ms) (copies_in item k _) next,
  )

  exit_leaves : (item : MapItem) (k : Rest) (ms : List MapItem) →
      LeavesAll plan i (if is_resting plan i item then all_but_first ms else ms) (k tt) →
      LeavesAll plan i ms (exit_left item k)
  exit_leaves item k ms next = (tt, λ a _. copied a (if_leaves a.removes removal k now (λ h. (tt, λ r _. h)) next))
    where
      now : List MapItem
      now = if is_resting plan i item then all_but_first ms else ms

      removal : Rest → Left
      removal l = Asks (Remove item.section) (λ r. l tt)

      copied : (a : Answer) →
          LeavesAll plan i (if is_resting plan i item then all_but_first ms else ms) (left_if a.removes removal k) →
          LeavesAll plan i (if is_resting plan i item then all_but_first ms else ms)
          (left_if a.copies (section_left CopyOut item.section) (λ u. left_if a.removes removal k))
      copied a h =
          if_leaves a.copies (section_left CopyOut item.section) (λ u. left_if a.removes removal k)
          (if is_resting plan i item then all_but_first ms else ms)
          (copies_out item (λ u. left_if a.removes removal k) _) h

  update_leaves : (item : MapItem) (k : Rest) (ms : List MapItem) → LeavesAll plan i ms (k tt) →
      LeavesAll plan i ms (update_left item k)
  update_leaves item k ms next =
      if_leaves (copies_to item.kind) (section_left CopyIn item.section)
      (λ u. left_if (copies_from item.kind) (section_left CopyOut item.section) k) ms
      (copies_in item (λ u. left_if (copies_from item.kind) (section_left CopyOut item.section) k) ms)
      (if_leaves (copies_from item.kind) (section_left CopyOut item.section) k ms (copies_out item k ms) next)

  updates_leave : (maps : List MapItem) (k : Rest) (ms : List MapItem) → LeavesAll plan i ms (k tt) →
      LeavesAll plan i ms (each_left update_left maps k)
  updates_leave [] k ms next = next
  updates_leave (item ∷ rest) k ms next =
      update_leaves item (λ u. each_left update_left rest k) ms (updates_leave rest k ms next)

  abbrev Owned : List MapItem → Type 0
  Owned maps = (k : ℕ) (m : MapItem) → slice_get maps k ≡ Some m → OwnEntry plan i (Enter m)

  entries_leave : (maps : List MapItem) (k : Rest) (ms : List MapItem) → Owned maps →
      LeavesAll plan i (ms ++ filter (is_resting plan i) maps) (k tt) →
      LeavesAll plan i ms (each_left entry_left maps k)
  entries_leave [] k ms own next = subst (λ xs. LeavesAll plan i xs (k tt)) (append-nil ms) next
  entries_leave (item ∷ rest) k ms own next =
      entry_leaves item (λ u. each_left entry_left rest k) ms (own 0 item refl)
      (go (is_resting plan i item) refl (λ xs h. entries_leave rest k xs (λ q m. own (suc q) m) h))
    where
      go : (b : Bool) → is_resting plan i item ≡ b →
          ((xs : List MapItem) → LeavesAll plan i (xs ++ filter (is_resting plan i) rest) (k tt) → LeavesAll plan i xs
          (each_left entry_left rest k)) → LeavesAll plan i (if is_resting plan i item then ms ++ item ∷ [] else ms)
          (each_left entry_left rest k)
      go true e again =
          subst (λ xs. LeavesAll plan i xs (each_left entry_left rest k))
          (sym (cond-true (is_resting plan i item) (ms ++ item ∷ []) ms e))
          (again (ms ++ item ∷ [])
          (subst (λ xs. LeavesAll plan i xs (k tt))
          (ap (λ xs. ms ++ xs) (cond-true (is_resting plan i item) (item ∷ filter (is_resting plan i) rest)
          (filter (is_resting plan i) rest) e) ∙ sym (append_assoc ms (item ∷ []) (filter (is_resting plan i) rest)))
          next))
      go false e again =
          subst (λ xs. LeavesAll plan i xs (each_left entry_left rest k))
          (sym (cond-false (is_resting plan i item) (ms ++ item ∷ []) ms e))
          (again ms
          (subst (λ xs. LeavesAll plan i xs (k tt))
          (ap (λ xs. ms ++ xs) (cond-false (is_resting plan i item) (item ∷ filter (is_resting plan i) rest)
          (filter (is_resting plan i) rest) e)) next))

  exits_leave : (maps : List MapItem) (k : Rest) → LeavesAll plan i [] (k tt) →
      LeavesAll plan i (filter (is_resting plan i) maps) (each_left exit_left maps k)
  exits_leave [] k next = next
  exits_leave (item ∷ rest) k next =
      exit_leaves item (λ u. each_left exit_left rest k) (filter (is_resting plan i) (item ∷ rest))
      (go (is_resting plan i item) refl (exits_leave rest k next))
    where
      all : List MapItem
      all = filter (is_resting plan i) (item ∷ rest)

      go : (b : Bool) → is_resting plan i item ≡ b →
          LeavesAll plan i (filter (is_resting plan i) rest) (each_left exit_left rest k) →
          LeavesAll plan i (if is_resting plan i item then all_but_first
          (filter (is_resting plan i) (item ∷ rest)) else filter (is_resting plan i) (item ∷ rest))
          (each_left exit_left rest k)
      go true e again =
          subst (λ xs. LeavesAll plan i xs (each_left exit_left rest k))
          (sym (cond-true (is_resting plan i item) (all_but_first all) all e ∙ ap all_but_first
          (cond-true (is_resting plan i item) (item ∷ filter (is_resting plan i) rest)
          (filter (is_resting plan i) rest) e))) again
      go false e again =
          subst (λ xs. LeavesAll plan i xs (each_left exit_left rest k))
          (sym (cond-false (is_resting plan i item) (all_but_first all) all e ∙ cond-false (is_resting plan i item)
          (item ∷ filter (is_resting plan i) rest) (filter (is_resting plan i) rest) e)) again

  module _ (w : Work) (at : slice_get plan.items i ≡ Some w) where
    resting_is : (m : MapItem) → is_resting plan i m ≡ (is_target w.kind && rests (blocks_before plan i) m)
    resting_is m = at_item plan i w at false (λ w. is_target w.kind && rests (blocks_before plan i) m)

    pub no_resting : is_target w.kind ≡ false → (m : MapItem) → is_resting plan i m ≡ false
    no_resting e m = resting_is m ∙ ap (λ b. b && rests (blocks_before plan i) m) e

    -- an item's map items that rest are among those of the walk
    own_maps : Owned w.maps
    own_maps k m e h =
        let p = and_parts (is_target w.kind) (rests (blocks_before plan i) m) (sym (resting_is m) ∙ h) in
        let q = filtered (rests (blocks_before plan i)) w.maps k m e p.1 in (
          q.0,
          ap (λ xs. slice_get xs q.0) (at_item plan i w at []
              (λ w. if is_target w.kind then filter (rests (blocks_before plan i)) w.maps else []) ∙ cond-true
              (is_target w.kind) (filter (rests (blocks_before plan i)) w.maps) [] p.0) ∙ q.1,
        )

    none_filtered : is_target w.kind ≡ false → (maps : List MapItem) → filter (is_resting plan i) maps ≡ []
    none_filtered e [] = refl
    none_filtered e (m ∷ rest) =
        cond-false (is_resting plan i m) (m ∷ filter (is_resting plan i) rest) (filter (is_resting plan i) rest)
        (no_resting e m) ∙ none_filtered e rest

    pub item_leaves : (order : List ℕ) (blocks : List Block) (s : Run) → IsLawful w → Fine s →
        IfThere (LeavesAll plan i []) (item_left order w blocks s)
    item_leaves order blocks s lawful f = go w.kind refl
      where
        loops : AllSmall w.loops
        loops = small_list w.loops lawful.loops

        entries : (t : Run) → is_target w.kind ≡ false →
            LeavesAll plan i [] (each_left entry_left w.maps (λ u. Finished t))
        entries t e = entries_leave w.maps (λ u. Finished t) [] own_maps (none_filtered e w.maps)

        exits : (t : Run) → is_target w.kind ≡ false →
            LeavesAll plan i [] (each_left exit_left w.maps (λ u. Finished t))
        exits t e =
            subst (λ xs. LeavesAll plan i xs (each_left exit_left w.maps (λ u. Finished t))) (none_filtered e w.maps)
            (exits_leave w.maps (λ u. Finished t) refl)

        go : (k : ItemKind) → w.kind ≡ k → IfThere (LeavesAll plan i []) (item_left order w blocks s)
        go kind.Host e = rw (e, item_left) (region_leaves w.region OnHost w.loops s Finished [] loops f (λ t g. refl))
        go kind.Target e =
            rw (e, item_left) (entries_leave w.maps
            (λ u. kernel_left order w.region w.loops s (λ t. each_left exit_left w.maps (λ u. Finished t))) []
            own_maps
            (kernel_leaves order w.region w.loops s (λ t. each_left exit_left w.maps (λ u. Finished t))
            (filter (is_resting plan i) w.maps) loops f (λ t g. exits_leave w.maps (λ u. Finished t) refl)))
        go kind.Begin e = rw (e, item_left) (entries s (ap is_target e))
        go kind.Enter e = rw (e, item_left) (entries s (ap is_target e))
        go kind.End e = rw (e, item_left) (exits s (ap is_target e))
        go kind.Exit e = rw (e, item_left) (exits s (ap is_target e))
        go kind.Update e =
            rw (e, item_left) (there_map (λ x. Unit {0}) (LeavesAll plan i [])
            (λ present. each_left update_left present (λ u. Finished s)) (present_of blocks w.maps)
            (λ present _. updates_leave present (λ u. Finished s) [] refl) (anyway (present_of blocks w.maps)))
          where
            anyway : (o : Option (List MapItem)) → IfThere (λ x. Unit {0}) o
            anyway None = tt
            anyway (Some x) = tt
        go kind.Wait e = rw (e, item_left) refl
