-- What is left of an item that is opened is in its walk: program order knows each of its actions.
use Rattle.std.proofs.Common.{◌≡◌, ◌⊎◌, ℕ, zero, suc, ◌+◌, ◌-◌, ◌<◌, ◌≤◌, ◌^◌, Bool, true, false, ◌&&◌, ◌==◌, List, [], ◌∷◌, ◌++◌, map, Option, Some, None, refl, sym, ◌∙◌, ap, ap₂, inl, inr, arith, subst, append-nil, append_assoc}
use Rattle.std.specs.Prelude.{option_map, find, filter, not, slice_get, if◌then◌else◌}
use mathlib.Core.Path.{fun_ext}
use Rattle.std.proofs.lemmas.Bool.{cases_Bool, cond-true, cond-false, false_from_ne_true, and_parts, or_left, eqb-true}
use Rattle.std.proofs.lemmas.Option.{same_Some, none-some}
use Rattle.base.specs.declared.item.Cell.{Cell}
use Rattle.base.specs.declared.item.Section.{Section}
use Rattle.base.specs.declared.item.MapItem.{MapItem}
use Rattle.base.specs.declared.item.MapKind.TheVariants.{Delete}
use Rattle.base.specs.Actions.{Host, Dev}
use Rattle.base.specs.Memory.{is_in, is_inside, same_section}
use Rattle.base.specs.Items.{Work, Plan}
use Rattle.base.specs.Value.{combined}
use Rattle.base.specs.Map.{Block, Memories, Fill, Move, Absent, Inside, InPart, presence, counted, without, when, with_blocks, with_cells, entry, exit, exit_count, exit_copies, enter, leave}
use Rattle.base.specs.Blocks.{holder}
use Rattle.base.specs.Actions.{entry_acts, exit_acts, each_acts, rests, is_present}
use Rattle.base.specs.Accepted.{is_target}
use Rattle.base.proofs.Blocks.{meets, holder_counted, holder_inside, counted_same, counted_other}
use Rattle.base.proofs.Sections.{first_in, in_from}
use Rattle.base.proofs.Moves.{is_absent, is_there, is_part, lowered_move, ignored_move, exit_absent, exit_there}
use Rattle.fine_machine.specs.Left.{Left, Asks, Request, Load, Store, Combine, Enter, Leave, Remove, CopyIn, CopyOut, OnHost, OnDevice, Answer, section_left, cells_left, left_if, entry_left, exit_left, each_left}
use Rattle.fine_machine.specs.Action.{act, on_cell, loaded, decided, lowered, removed, with_host, with_device}
use Rattle.base.specs.declared.tree.ArrayId.{ArrayId}
use Rattle.base.specs.Memory.{is_cell}
use Rattle.two_memories.specs.Two.{AreBlocks, number_inside, one_inside, blocks_before}
use Rattle.two_memories.proofs.PlanItems.{at_item}
use Rattle.two_memories.proofs.Entered.{is_entered}
use Rattle.two_memories.proofs.MapMoves.{after_entry, after_exit, put_blocks, acts_entry, acts_entry_blocks, acts_exit, acts_exit_blocks}
use Rattle.two_memories.proofs.LikeMemories.{Covers, covers_left, covers_right}
use Rattle.two_memories.proofs.AdjustedCounts.{access_of}
use Rattle.two_memories.proofs.EntryFrame.{EntryAccess, entry_access}
use Rattle.two_memories.proofs.ExitFrame.{ExitAccess, exit_access}
use Rattle.two_memories.proofs.CountsAbove.{Above, above_less, above_entry, above_exit}
use Rattle.two_memories.proofs.MapLists.{AreSized, NoDelete, not_absent}
use Rattle.two_memories.proofs.InOrderMeets.{above_own}
use Rattle.two_memories.proofs.RestingLooks.{with_these, empty_fill, entered_blocks}
use Rattle.two_memories.proofs.WalkBlocks.{left_blocks}
use Rattle.two_memories.proofs.ExitCounts.{by_one}
use Rattle.fine_headline.specs.FineState.{is_resting, entered_now, all_but_first}
use Rattle.fine_headline.proofs.Cells.{IsAllowed}
use Rattle.fine_headline.proofs.LeavingAll.{no_resting}
use Rattle.fine_headline.proofs.MapReaching.{found_counted, without_counted, counted_section}
use Rattle.fine_headline.proofs.Resting.{number_appended}
use Rattle.fine_headline.proofs.Walking.{IsStanding, Stands, RemovesHere, InWalk}

abbrev Rest : Type 0
Rest = Unit {0} → Left

-- An action on a cell.

abbrev IsCell : Request → Type 0
IsCell (Enter item) = ⊥
IsCell (Leave item) = ⊥
IsCell (Remove s) = ⊥
IsCell _ = Unit {0}

of_cell : (b : Bool) (x y : Answer × Memories) → on_cell {A = Answer × Memories} b x ≡ Some y → x ≡ y
of_cell true x y e = same_Some x y e
of_cell false x y e = absurd (none-some y e)

pub of_map : {A B : Type 0} (f : A → B) (o : Option A) (y : B) → option_map f o ≡ Some y →
    (x : A) × (o ≡ Some x) × (f x ≡ y)
of_map f None y e = absurd (none-some y e)
of_map f (Some x) y e = (x, refl, same_Some (f x) y e)

cell_blocks : (lengths : List ℕ) (fill : Fill) (r : Request) (m n : Memories) (x : Answer) → IsCell r →
    act lengths fill r m ≡ Some (x, n) → n.device.blocks ≡ m.device.blocks
cell_blocks lengths fill (Load OnHost c) m n x t e =
    ap (λ (p : Answer × Memories). p.1.device.blocks)
    (sym (of_cell (is_cell lengths c) (loaded (m.host c), m) (x, n) e))
cell_blocks lengths fill (Load OnDevice c) m n x t e =
    ap (λ (p : Answer × Memories). p.1.device.blocks) (sym (of_map (λ n. (loaded n, m)) (m.device.cells c) (x, n) e).2)
cell_blocks lengths fill (Store OnHost c v) m n x t e =
    ap (λ (p : Answer × Memories). p.1.device.blocks)
    (sym (of_cell (is_cell lengths c) (loaded 0, with_host c v m) (x, n) e))
cell_blocks lengths fill (Store OnDevice c v) m n x t e =
    ap (λ (p : Answer × Memories). p.1.device.blocks)
    (sym (of_map (λ old. (loaded 0, with_device c v m)) (m.device.cells c) (x, n) e).2)
cell_blocks lengths fill (Combine OnHost op c v) m n x t e =
    ap (λ (p : Answer × Memories). p.1.device.blocks)
    (sym (of_cell (is_cell lengths c) (loaded 0, with_host c (combined op (m.host c) v) m) (x, n) e))
cell_blocks lengths fill (Combine OnDevice op c v) m n x t e =
    ap (λ (p : Answer × Memories). p.1.device.blocks)
    (sym (of_map (λ old. (loaded 0, with_device c (combined op old v) m)) (m.device.cells c) (x, n) e).2)
cell_blocks lengths fill (CopyIn c) m n x t e =
    ap (λ (p : Answer × Memories). p.1.device.blocks)
    (sym (of_map (λ old. (loaded 0, with_device c (m.host c) m)) (m.device.cells c) (x, n) e).2)
cell_blocks lengths fill (CopyOut c) m n x t e =
    ap (λ (p : Answer × Memories). p.1.device.blocks)
    (sym (of_map (λ v. (loaded 0, with_host c v m)) (m.device.cells c) (x, n) e).2)
cell_blocks lengths fill (Enter item) m n x t e = absurd t
cell_blocks lengths fill (Leave item) m n x t e = absurd t
cell_blocks lengths fill (Remove s) m n x t e = absurd t

-- A filter, one more.

filter_appended : (r : MapItem → Bool) (xs : List MapItem) (x : MapItem) →
    filter r (xs ++ x ∷ []) ≡ (if r x then filter r xs ++ x ∷ [] else filter r xs)
filter_appended r [] x = refl
filter_appended r (y ∷ xs) x = go (filter_appended r xs x) (cases_Bool (r y)) (r x) refl
  where
    go : filter r (xs ++ x ∷ []) ≡ (if r x then filter r xs ++ x ∷ [] else filter r xs) → (r y ≡ true) ⊎ (r y ≡ false) →
        (b : Bool) → r x ≡ b →
        filter r ((y ∷ xs) ++ x ∷ []) ≡ (if r x then filter r (y ∷ xs) ++ x ∷ [] else filter r (y ∷ xs))
    go again (inl t) true e =
        cond-true (r y) (y ∷ filter r (xs ++ x ∷ [])) (filter r (xs ++ x ∷ [])) t
        ∙ (ap (λ l. y ∷ l) (again ∙ cond-true (r x) (filter r xs ++ x ∷ []) (filter r xs) e)
        ∙ (ap (λ l. l ++ x ∷ []) (sym (cond-true (r y) (y ∷ filter r xs) (filter r xs) t)) ∙ sym
        (cond-true (r x) (filter r (y ∷ xs) ++ x ∷ []) (filter r (y ∷ xs)) e)))
    go again (inl t) false e =
        cond-true (r y) (y ∷ filter r (xs ++ x ∷ [])) (filter r (xs ++ x ∷ [])) t
        ∙ (ap (λ l. y ∷ l) (again ∙ cond-false (r x) (filter r xs ++ x ∷ []) (filter r xs) e)
        ∙ (sym (cond-true (r y) (y ∷ filter r xs) (filter r xs) t) ∙ sym
        (cond-false (r x) (filter r (y ∷ xs) ++ x ∷ []) (filter r (y ∷ xs)) e)))
    go again (inr t) true e =
        cond-false (r y) (y ∷ filter r (xs ++ x ∷ [])) (filter r (xs ++ x ∷ [])) t
        ∙ (again ∙ (cond-true (r x) (filter r xs ++ x ∷ []) (filter r xs) e
        ∙ (ap (λ l. l ++ x ∷ []) (sym (cond-false (r y) (y ∷ filter r xs) (filter r xs) t)) ∙ sym
        (cond-true (r x) (filter r (y ∷ xs) ++ x ∷ []) (filter r (y ∷ xs)) e))))
    go again (inr t) false e =
        cond-false (r y) (y ∷ filter r (xs ++ x ∷ [])) (filter r (xs ++ x ∷ [])) t
        ∙ (again ∙ (cond-false (r x) (filter r xs ++ x ∷ []) (filter r xs) e
        ∙ (sym (cond-false (r y) (y ∷ filter r xs) (filter r xs) t) ∙ sym
        (cond-false (r x) (filter r (y ∷ xs) ++ x ∷ []) (filter r (y ∷ xs)) e))))

pub sized_at : (maps : List MapItem) (k : ℕ) (m : MapItem) → AreSized maps → slice_get maps k ≡ Some m →
    1 ≤ m.section.length
sized_at [] k m h e = absurd (none-some m e)
sized_at (x ∷ maps) zero m h e =
    let is : x ≡ m = same_Some x m e in subst (λ (z : MapItem). 1 ≤ z.section.length) is h.size
sized_at (x ∷ maps) (suc k) m h e = sized_at maps k m h.rest e

pub sized_more : (maps : List MapItem) (x : MapItem) → AreSized maps → 1 ≤ x.section.length → AreSized (maps ++ x ∷ [])
sized_more [] x h size = record { size = size; rest = tt }
sized_more (y ∷ maps) x h size = record { size = h.size; rest = sized_more maps x h.rest size }

module _ (plan : Plan) (fill : Fill) (i : ℕ) (w : Work) (at : slice_get plan.items i ≡ Some w)
    (after : List Block) where
  -- a cell that is asked for among the accesses
  pub cell_walks : (ms : List MapItem) (bs : List Block) (r : Request) (k : Answer → Left) → IsAllowed plan i r →
      ((x : Answer) → x.number < 2 ^ 64 → InWalk plan fill i after ms bs (k x)) →
      InWalk plan fill i after ms bs (Asks r k)
  cell_walks ms bs (Load side c) k h next = (
    h,
    λ x m n same small e. subst (λ xs. InWalk plan fill i after ms xs (k x))
        (sym (cell_blocks plan.lengths fill (Load side c) m n x tt e ∙ same)) (next x small),
  )
  cell_walks ms bs (Store side c v) k h next = (
    h,
    λ x m n same small e. subst (λ xs. InWalk plan fill i after ms xs (k x))
        (sym (cell_blocks plan.lengths fill (Store side c v) m n x tt e ∙ same)) (next x small),
  )
  cell_walks ms bs (Combine side op c v) k h next = (
    h,
    λ x m n same small e. subst (λ xs. InWalk plan fill i after ms xs (k x))
        (sym (cell_blocks plan.lengths fill (Combine side op c v) m n x tt e ∙ same)) (next x small),
  )
  cell_walks ms bs (CopyIn c) k h next = (
    h,
    λ x m n same small e. subst (λ xs. InWalk plan fill i after ms xs (k x))
        (sym (cell_blocks plan.lengths fill (CopyIn c) m n x tt e ∙ same)) (next x small),
  )
  cell_walks ms bs (CopyOut c) k h next = (
    h,
    λ x m n same small e. subst (λ xs. InWalk plan fill i after ms xs (k x))
        (sym (cell_blocks plan.lengths fill (CopyOut c) m n x tt e ∙ same)) (next x small),
  )
  cell_walks ms bs (Enter item) k h next = absurd h
  cell_walks ms bs (Leave item) k h next = absurd h
  cell_walks ms bs (Remove s) k h next = absurd h

  cells_walk : (ask : Cell → Request) (ms : List MapItem) (bs : List Block) (a : ArrayId) (first n : ℕ) (k : Rest) →
      ((c : Cell) → c.array ≡ a → first ≤ c.index → c.index < first + n → IsAllowed plan i (ask c)) →
      InWalk plan fill i after ms bs (k tt) → InWalk plan fill i after ms bs (cells_left ask a first n k)
  cells_walk ask ms bs a first zero k h next = next
  cells_walk ask ms bs a first (suc n) k h next =
      let c : Cell = record { array = a; index = first } in
      cell_walks ms bs (ask c) (λ r. cells_left ask a (first + 1) n k) (h c refl (omega arith) (omega arith))
      (λ x _. cells_walk ask ms bs a (first + 1) n k (λ d e lo hi. h d e (omega arith) (omega arith)) next)

  section_walks : (ask : Cell → Request) (ms : List MapItem) (bs : List Block) (s : Section) (k : Rest) →
      ((c : Cell) → is_in c s ≡ true → IsAllowed plan i (ask c)) → InWalk plan fill i after ms bs (k tt) →
      InWalk plan fill i after ms bs (section_left ask s k)
  section_walks ask ms bs s k h next =
      cells_walk ask ms bs s.array s.first s.length k (λ c e lo hi. h c (inside c e lo hi)) next
    where
      inside : (c : Cell) → c.array ≡ s.array → s.first ≤ c.index → c.index < s.first + s.length → is_in c s ≡ true
      inside c e lo hi = in_from c s (record { array = ap (λ (x : ArrayId). x.0) e; above = lo; below = hi })

  pub if_walks : (b : Bool) (ms : List MapItem) (bs : List Block) (first : Rest → Left) (k : Rest) →
      (b ≡ true → InWalk plan fill i after ms bs (k tt) → InWalk plan fill i after ms bs (first k)) →
      InWalk plan fill i after ms bs (k tt) → InWalk plan fill i after ms bs (left_if b first k)
  if_walks true ms bs first k h next = h refl next
  if_walks false ms bs first k h next = next

  pub copies_in : (b : Bool) (ms : List MapItem) (bs : List Block) (s : Section) (k : Rest) →
      (b ≡ true → (c : Cell) → is_in c s ≡ true →
      ((access_of plan i).reads Host c ≡ true) × ((access_of plan i).writes Dev c ≡ true)) → InWalk plan fill i after ms
      bs (k tt) → InWalk plan fill i after ms bs (left_if b (section_left CopyIn s) k)
  copies_in b ms bs s k h next =
      if_walks b ms bs (section_left CopyIn s) k
      (λ e. section_walks CopyIn ms bs s k (λ c j. let p = h e c j in (or_left _ _ p.0, p.1))) next

  pub copies_out : (b : Bool) (ms : List MapItem) (bs : List Block) (s : Section) (k : Rest) →
      (b ≡ true → (c : Cell) → is_in c s ≡ true →
      ((access_of plan i).reads Dev c ≡ true) × ((access_of plan i).writes Host c ≡ true)) → InWalk plan fill i after ms
      bs (k tt) → InWalk plan fill i after ms bs (left_if b (section_left CopyOut s) k)
  copies_out b ms bs s k h next =
      if_walks b ms bs (section_left CopyOut s) k
      (λ e. section_walks CopyOut ms bs s k (λ c j. let p = h e c j in (or_left _ _ p.0, p.1))) next

  -- What rests.

  abbrev before : List Block
  before = blocks_before plan i

  pub resting_is : (m : MapItem) → is_resting plan i m ≡ (is_target w.kind && rests (blocks_before plan i) m)
  resting_is m = at_item plan i w at false (λ w. is_target w.kind && rests (blocks_before plan i) m)

  pub resting_target : is_target w.kind ≡ true → is_resting plan i ≡ rests (blocks_before plan i)
  resting_target e = fun_ext (λ m. resting_is m ∙ ap (λ b. b && rests (blocks_before plan i) m) e)

  rests_there : (m : MapItem) → is_resting plan i m ≡ true → is_present (blocks_before plan i) m.section ≡ true
  rests_there m h =
      (and_parts (not m.always) (is_present (blocks_before plan i) m.section)
      (and_parts (is_target w.kind) (rests (blocks_before plan i) m) (sym (resting_is m) ∙ h)).1).1

  pub none_rest : is_target w.kind ≡ false → (maps : List MapItem) → filter (is_resting plan i) maps ≡ []
  none_rest e [] = refl
  none_rest e (m ∷ rest) =
      cond-false (is_resting plan i m) (m ∷ filter (is_resting plan i) rest) (filter (is_resting plan i) rest)
      (no_resting plan i w at e m) ∙ none_rest e rest

  -- blocks above what has entered them stand
  above_stands : (maps : List MapItem) (bs : List Block) → AreSized maps → AreBlocks bs →
      (is_target w.kind ≡ true → Above (number_inside maps) (blocks_before plan i) bs) → (c : Cell) (b : Block) →
      holder bs c ≡ Some b → number_inside (filter (is_resting plan i) maps) b.section < b.count
  above_stands maps bs sizes ok above c b e = go (cases_Bool (is_target w.kind))
    where
      go : (is_target w.kind ≡ true) ⊎ (is_target w.kind ≡ false) →
          number_inside (filter (is_resting plan i) maps) b.section < b.count
      go (inl t) =
          subst (λ r. number_inside (filter r maps) b.section < b.count) (sym (resting_target t))
          (above_own before bs maps ok (λ k m at. sized_at maps k m sizes at) (above t) c b e)
      go (inr t) =
          let lt : 1 ≤ b.count = is_entered bs c b ok.1 e in subst (λ l. number_inside l b.section < b.count)
          (sym (none_rest t maps)) lt

  -- Entries.

  enter_gives : (item : MapItem) (m n : Memories) (x : Answer) → act plan.lengths fill (Enter item) m ≡ Some (x, n) →
      (move : Move) × (entry item m.device.blocks ≡ Some
      move) × (x.copies ≡ move.copies) × (n.device.blocks ≡ move.blocks)
  enter_gives item m n x e =
      let p = of_map (λ (move : Move). (
        decided move.copies false,
        when move.changes
            (with_cells (λ c. Some (fill c)) move.block) (with_blocks move.blocks m),
      )) (entry item m.device.blocks)
      (x, n) e in (
        p.0,
        p.1,
        ap (λ (q : Answer × Memories). q.0.copies) (sym p.2),
        ap (λ (q : Answer × Memories). q.1.device.blocks)
            (sym p.2) ∙ blocks_are p.0.changes p.0,
      )
    where
      blocks_are : (b : Bool) (move : Move) →
          (when b (with_cells (λ c. Some (fill c)) move.block) (with_blocks move.blocks m)).device.blocks ≡ move.blocks
      blocks_are true move = refl
      blocks_are false move = refl

  entered_is : (item : MapItem) (seen : List MapItem) →
      entered_now (is_resting plan i) (Enter item) (filter (is_resting plan i) seen) ≡ filter (is_resting plan i)
      (seen ++ item ∷ [])
  entered_is item seen = sym (filter_appended (is_resting plan i) seen item)

  more_number : (seen : List MapItem) (item : MapItem) (s : Section) →
      number_inside (seen ++ item ∷ []) s ≤ one_inside s item + number_inside seen s
  more_number seen item s = let e = number_appended seen item s in omega arith

  -- entries one after the other, after those of the map items seen so far
  pub entries_walk : (seen maps : List MapItem) (bs : List Block) (k : Rest) → AreSized seen → AreSized maps →
      AreBlocks bs → (is_target w.kind ≡ true → Above (number_inside seen) (blocks_before plan i) bs) →
      Covers (each_acts (entry_acts (is_resting plan i)) maps bs).actions (access_of plan i) →
      ((now : List Block) → now ≡ (each_acts (entry_acts (is_resting plan i)) maps bs).blocks → AreBlocks now →
      (is_target w.kind ≡ true → Above (number_inside (seen ++ maps)) (blocks_before plan i) now) → InWalk plan fill i
      after (filter (is_resting plan i) (seen ++ maps)) now (k tt)) →
      InWalk plan fill i after (filter (is_resting plan i) seen) bs (each_left entry_left maps k)
  entries_walk seen [] bs k sizes are ok above covers next =
      subst (λ l. InWalk plan fill i after (filter (is_resting plan i) l) bs (k tt)) (append-nil seen)
      (next bs refl ok (λ t. subst (λ l. Above (number_inside l) (blocks_before plan i) bs) (sym (append-nil seen))
      (above t)))
  entries_walk seen (item ∷ rest) bs k sizes are ok above covers next = (
    record {
      size = are.size;
      stands = λ c b e. inl (above_stands seen bs sizes ok above c b e);
      entered = ok.1;
      covers =
          covers_left (entry_acts (is_resting plan i) item bs).actions
          (each_acts (entry_acts (is_resting plan i)) rest (entry_acts (is_resting plan i) item bs).blocks).actions
          (access_of plan i) covers;
      there =
          λ r. not_absent (blocks_before plan i) bs (number_inside seen) item.section are.size (rests_there item r)
          (above (is_a_target item r));
    },
    λ x m n same small e. go x m n same (enter_gives item m n x e)
        (λ now ok above covers next. entries_walk (seen ++ item ∷ []) rest now k
        (sized_more seen item sizes are.size) are.rest ok above covers next),
  )
    where
      is_a_target : (m : MapItem) → is_resting plan i m ≡ true → is_target w.kind ≡ true
      is_a_target m h = (and_parts (is_target w.kind) (rests (blocks_before plan i) m) (sym (resting_is m) ∙ h)).0

      go : (x : Answer) (m n : Memories) → m.device.blocks ≡ bs →
          (move : Move) × (entry item m.device.blocks ≡ Some
          move) × (x.copies ≡ move.copies) × (n.device.blocks ≡ move.blocks) →
          ((now : List Block) → AreBlocks now → (is_target w.kind ≡ true → Above (number_inside (seen ++ item ∷ []))
          (blocks_before plan i) now) → Covers (each_acts (entry_acts (is_resting plan i)) rest now).actions
          (access_of plan i) →
          ((last : List Block) → last ≡ (each_acts (entry_acts (is_resting plan i)) rest now).blocks → AreBlocks last →
          (is_target w.kind ≡ true → Above (number_inside ((seen ++ item ∷ []) ++ rest)) (blocks_before plan i) last) →
          InWalk plan fill i after (filter (is_resting plan i) ((seen ++ item ∷ []) ++ rest)) last (k tt)) →
          InWalk plan fill i after (filter (is_resting plan i) (seen ++ item ∷ [])) now (each_left entry_left rest k)) →
          InWalk plan fill i after (entered_now (is_resting plan i) (Enter item) (filter (is_resting plan i) seen))
          n.device.blocks (left_if x.copies (section_left CopyIn item.section) (λ u. each_left entry_left rest k))
      go x m n same p again =
          subst (λ l. InWalk plan fill i after l n.device.blocks
          (left_if x.copies (section_left CopyIn item.section) (λ u. each_left entry_left rest k)))
          (sym (entered_is item seen))
          (copies_in x.copies (filter (is_resting plan i) (seen ++ item ∷ [])) n.device.blocks item.section
          (λ u. each_left entry_left rest k)
          (λ q c j. let y = sym p.2 ∙ q in (access.copied y c j, access.copies y c j))
          (again n.device.blocks fine higher (subst (λ xs. Covers (each_acts (entry_acts (is_resting plan i)) rest
          xs).actions (access_of plan i)) walked later)
          (λ last at ok above.
          subst (λ l. InWalk plan fill i after (filter (is_resting plan i) l) last (k tt))
          (sym (append_assoc seen (item ∷ []) rest))
          (next last (at ∙ ap (λ xs. (each_acts (entry_acts (is_resting plan i)) rest xs).blocks) (sym walked)) ok
          (λ t. subst (λ l. Above (number_inside l) (blocks_before plan i) last) (append_assoc seen (item ∷ []) rest)
          (above t))))))
        where
          move : Move
          move = p.0

          makes : entry item bs ≡ Some p.0
          makes = ap (entry item) (sym same) ∙ p.1

          access : EntryAccess (is_resting plan i item) item p.0 (access_of plan i)
          access =
              entry_access (is_resting plan i item) item move (access_of plan i)
              (subst (λ acts. Covers acts (access_of plan i)) (acts_entry (is_resting plan i) item bs move makes)
              (covers_left (entry_acts (is_resting plan i) item bs).actions
              (each_acts (entry_acts (is_resting plan i)) rest (entry_acts (is_resting plan i) item bs).blocks).actions
              (access_of plan i) covers))

          later : Covers (each_acts (entry_acts (is_resting plan i)) rest
              (entry_acts (is_resting plan i) item bs).blocks).actions (access_of plan i)
          later =
              covers_right (entry_acts (is_resting plan i) item bs).actions
              (each_acts (entry_acts (is_resting plan i)) rest (entry_acts (is_resting plan i) item bs).blocks).actions
              (access_of plan i) covers

          walked : (entry_acts (is_resting plan i) item bs).blocks ≡ n.device.blocks
          walked = acts_entry_blocks (is_resting plan i) item bs move makes ∙ sym p.3

          -- the same entry, with its copies
          whole : Memories
          whole = after_entry empty_fill item p.0 (with_these bs)

          done : enter empty_fill item (with_these bs) ≡ Some whole
          done = ap (option_map (λ move. after_entry empty_fill item move (with_these bs))) makes

          whole_blocks : whole.device.blocks ≡ n.device.blocks
          whole_blocks =
              put_blocks empty_fill item.section move.block move.copies move.changes move.blocks (with_these bs)
              ∙ sym p.3

          fine : AreBlocks n.device.blocks
          fine = subst AreBlocks whole_blocks (entered_blocks empty_fill item (with_these bs) whole ok are.size done)

          higher : is_target w.kind ≡ true →
              Above (number_inside (seen ++ item ∷ [])) (blocks_before plan i) n.device.blocks
          higher t =
              subst (Above (number_inside (seen ++ item ∷ [])) (blocks_before plan i)) whole_blocks
              (above_less (number_inside (seen ++ item ∷ [])) (λ s. one_inside s item + number_inside seen s)
              (blocks_before plan i) whole.device.blocks (more_number seen item)
              (above_entry empty_fill item (number_inside seen) (blocks_before plan i)
              (with_these bs) whole ok are.size done (above t)))

  -- Exits.

  left_is : (item : MapItem) (rest : List MapItem) →
      entered_now (is_resting plan i) (Leave item) (filter (is_resting plan i) (item ∷ rest)) ≡ filter
      (is_resting plan i) rest
  left_is item rest = go (is_resting plan i item) refl
    where
      all : List MapItem
      all = filter (is_resting plan i) (item ∷ rest)

      go : (b : Bool) → is_resting plan i item ≡ b →
          entered_now (is_resting plan i) (Leave item) (filter (is_resting plan i) (item ∷ rest)) ≡ filter
          (is_resting plan i) rest
      go true e =
          cond-true (is_resting plan i item) (all_but_first all) all e ∙ ap all_but_first
          (cond-true (is_resting plan i item) (item ∷ filter (is_resting plan i) rest)
          (filter (is_resting plan i) rest) e)
      go false e =
          cond-false (is_resting plan i item) (all_but_first all) all e ∙ cond-false (is_resting plan i item)
          (item ∷ filter (is_resting plan i) rest) (filter (is_resting plan i) rest) e

  abbrev removal : Section → Rest → Left
  removal s l = Asks (Remove s) (λ r. l tt)

  lowered_absent : (item : MapItem) (m : Memories) → presence m.device.blocks item.section ≡ Absent →
      lowered item m ≡ Some (decided false false, m)
  lowered_absent item m e = rw (e, lowered) refl

  lowered_there : (item : MapItem) (m : Memories) (b : Block) → presence m.device.blocks item.section ≡ Inside b →
      lowered item m ≡ Some (
        decided (exit_copies item (exit_count item.kind b.count))
            (exit_count item.kind b.count == 0),
        with_blocks
            (map (counted b.section (exit_count item.kind b.count)) m.device.blocks) m,
      )
  lowered_there item m b e = rw (e, lowered) refl

  lowered_part : (item : MapItem) (m : Memories) → presence m.device.blocks item.section ≡ InPart →
      lowered item m ≡ None
  lowered_part item m e = rw (e, lowered) refl

  removed_there : (s : Section) (m : Memories) (b : Block) → presence m.device.blocks s ≡ Inside b →
      (removed s m).device.blocks ≡ without m.device.blocks b.section
  removed_there s m b e = rw (e, removed) refl

  -- a block whose count fell to 0, as it is before its removal
  module _ (item : MapItem) (rest : List MapItem) (bs : List Block) (b : Block) (sizes : AreSized (item ∷ rest))
      (ok : AreBlocks bs) (above : is_target w.kind ≡ true → Above (number_inside (item ∷ rest))
      (blocks_before plan i) bs)
      (keeps : is_target w.kind ≡ true → item.kind ≡ Delete → ⊥) (found : find (meets item.section) bs ≡ Some b)
      (inside : is_inside item.section b.section ≡ true) (zero_now : exit_count item.kind b.count ≡ 0)
      (access : ExitAccess (is_resting plan i item) item (lowered_move item b bs) (access_of plan i)) where
    first_held : holder bs (record { array = item.section.array; index = item.section.first }) ≡ Some b
    first_held =
        holder_inside bs item.section b (record { array = item.section.array; index = item.section.first }) found inside
        (first_in item.section sizes.size)

    number : number_inside (filter (is_resting plan i) (item ∷ rest)) b.section < b.count
    number =
        above_stands (item ∷ rest) bs sizes ok above
        (record { array = item.section.array; index = item.section.first }) b first_held

    works : is_resting plan i item ≡ false
    works = false_from_ne_true _ (λ r. absurd (too_few r))
      where
        too_few : is_resting plan i item ≡ true → ⊥
        too_few r =
            let t = (and_parts (is_target w.kind) (rests (blocks_before plan i) item) (sym (resting_is item) ∙ r)).0 in
            let q : exit_count item.kind b.count ≡ b.count - 1 = by_one item.kind (keeps t) b.count in
            let one : one_inside b.section item ≡ 1 = cond-true (is_inside item.section b.section) 1 0 inside in
            let all : number_inside (filter (is_resting plan i) (item ∷ rest)) b.section ≡ one_inside b.section
            item + number_inside (filter (is_resting plan i) rest) b.section =
            ap (λ l. number_inside l b.section) (cond-true (is_resting plan i item)
            (item ∷ filter (is_resting plan i) rest) (filter (is_resting plan i) rest) r) in
            let lt = number in
            let z = zero_now in
            absurd (omega arith)

    same_filter : filter (is_resting plan i) (item ∷ rest) ≡ filter (is_resting plan i) rest
    same_filter =
        cond-false (is_resting plan i item) (item ∷ filter (is_resting plan i) rest)
        (filter (is_resting plan i) rest) works

    empty : number_inside (filter (is_resting plan i) rest) b.section ≡ 0
    empty = go (cases_Bool (is_target w.kind))
      where
        go : (is_target w.kind ≡ true) ⊎ (is_target w.kind ≡ false) →
            number_inside (filter (is_resting plan i) rest) b.section ≡ 0
        go (inr t) = ap (λ l. number_inside l b.section) (none_rest t rest)
        go (inl t) =
            let q : exit_count item.kind b.count ≡ b.count - 1 = by_one item.kind (keeps t) b.count in
            let lt : number_inside (filter (is_resting plan i) rest) b.section < b.count = subst
            (λ l. number_inside l b.section < b.count) same_filter number in
            let z = zero_now in
            omega arith

    stands_zero : Stands plan i (filter (is_resting plan i) rest)
        (map (counted b.section (exit_count item.kind b.count)) bs)
    stands_zero c y e = by (holder bs c) refl
      where
        at_same : (x : Block) → (same_section x.section b.section ≡ true) ⊎ (same_section x.section b.section ≡ false) →
            holder bs c ≡ Some x → counted b.section (exit_count item.kind b.count) x ≡ y →
            IsStanding plan i (filter (is_resting plan i) rest) y
        at_same x (inl s) o is =
            let its : y.section ≡ b.section = ap (λ (z : Block). z.section)
            (sym is ∙ counted_same b.section (exit_count item.kind b.count) x s) in
            inr (
              ap (number_inside (filter (is_resting plan i) rest)) its ∙ empty,
              λ z j. access.counts works z
                  (ap (is_in z) (sym its) ∙ j),
            )
        at_same x (inr s) o is =
            let its : x ≡ y = sym (counted_other b.section (exit_count item.kind b.count) x s) ∙ is in
            inl (subst (λ (z : Block). number_inside (filter (is_resting plan i) rest) z.section < z.count) its
            (subst (λ l. number_inside l x.section < x.count) same_filter
            (above_stands (item ∷ rest) bs sizes ok above c x o)))

        by : (o : Option Block) → holder bs c ≡ o →
            IsStanding plan i (filter (is_resting plan i) rest) y
        by None o =
            absurd (none-some y (sym (holder_counted bs b.section (exit_count item.kind b.count) c ∙ ap
            (option_map (counted b.section (exit_count item.kind b.count))) o) ∙ e))
        by (Some x) o =
            at_same x (cases_Bool (same_section x.section b.section)) o
            (same_Some (counted b.section (exit_count item.kind b.count) x) y
            (sym (holder_counted bs b.section (exit_count item.kind b.count) c ∙ ap
            (option_map (counted b.section (exit_count item.kind b.count))) o) ∙ e))

    pub removes_here : (exit_count item.kind b.count == 0) ≡ true →
        RemovesHere plan i item.section (filter (is_resting plan i) rest)
        (map (counted b.section (exit_count item.kind b.count)) bs)
    removes_here z = record {
      size = sizes.size;
      stands = stands_zero;
      block = counted b.section (exit_count item.kind b.count) b;
      found = found_counted bs b.section item.section (exit_count item.kind b.count) b found;
      inside = ap (is_inside item.section) (counted_section b.section (exit_count item.kind b.count) b) ∙ inside;
      table =
          λ c j. access.counts works c (ap (is_in c) (sym (counted_section b.section (exit_count item.kind b.count) b))
          ∙ j);
      cells =
          λ c j. access.removes z c (ap (is_in c) (sym (counted_section b.section (exit_count item.kind b.count) b)) ∙
          j);
    }

  -- what follows of one exit, where the blocks after it are known
  exit_walks : (item : MapItem) (rest : List MapItem) (bs : List Block) (k : Rest) → AreSized (item ∷ rest) →
      AreBlocks bs → (is_target w.kind ≡ true → item.kind ≡ Delete → ⊥) →
      (is_target w.kind ≡ true → Above (number_inside (item ∷ rest)) (blocks_before plan i) bs) →
      Covers (exit_acts (is_resting plan i) item bs).actions (access_of plan i) →
      ((now : List Block) → now ≡ (exit_acts (is_resting plan i) item bs).blocks → AreBlocks now →
      (is_target w.kind ≡ true → Above (number_inside rest) (blocks_before plan i) now) → InWalk plan fill i after
      (filter (is_resting plan i) rest) now (k tt)) →
      (x : Answer) (m n : Memories) → m.device.blocks ≡ bs → lowered item m ≡ Some (x, n) →
      InWalk plan fill i after (filter (is_resting plan i) rest) n.device.blocks
      (left_if x.copies (section_left CopyOut item.section) (λ u. left_if x.removes (removal item.section) k))
  exit_walks item rest bs k sizes ok keeps above covers next x m n same e = go (find (meets item.section) bs) refl
    where
      Goal : (Answer × Memories) → Type 0
      Goal p =
          InWalk plan fill i after (filter (is_resting plan i) rest) p.1.device.blocks
          (left_if p.0.copies (section_left CopyOut item.section) (λ u. left_if p.0.removes (removal item.section) k))

      -- the exit with its copies, done whole
      followed : (move : Move) → exit item bs ≡ Some move → (now : List Block) → now ≡ move.blocks →
          InWalk plan fill i after (filter (is_resting plan i) rest) now (k tt)
      followed move made now is =
          let whole : Memories = after_exit item move (with_these bs) in
          let done : leave item (with_these bs) ≡ Some whole = ap
          (option_map (λ move. after_exit item move (with_these bs))) made in
          next now (is ∙ sym (acts_exit_blocks (is_resting plan i) item bs move made))
          (subst AreBlocks (sym is) (left_blocks item (with_these bs) whole ok done))
          (λ t. subst (Above (number_inside rest) (blocks_before plan i)) (sym is)
          (above_exit item (number_inside rest) (blocks_before plan i) (with_these bs) whole ok sizes.size
          (keeps t) done (above t)))

      absent : find (meets item.section) bs ≡ None → Goal (decided false false, m)
      absent f =
          followed (ignored_move item bs) (exit_absent item bs (is_absent bs item.section f)) m.device.blocks same

      present : (b : Block) → find (meets item.section) bs ≡ Some b → is_inside item.section b.section ≡ true →
          Goal (
            decided (exit_copies item (exit_count item.kind b.count)) (exit_count item.kind b.count == 0),
            with_blocks (map (counted b.section (exit_count item.kind b.count)) m.device.blocks) m,
          )
      present b f j =
          subst (λ xs. InWalk plan fill i after (filter (is_resting plan i) rest)
          (map (counted b.section (exit_count item.kind b.count)) xs)
          (left_if (exit_copies item (exit_count item.kind b.count)) (section_left CopyOut item.section)
          (λ u. left_if (exit_count item.kind b.count == 0) (removal item.section) k))) (sym same)
          (copies_out (exit_copies item (exit_count item.kind b.count)) (filter (is_resting plan i) rest)
          (map (counted b.section (exit_count item.kind b.count)) bs) item.section
          (λ u. left_if (exit_count item.kind b.count == 0) (removal item.section) k)
          (λ y c q. (access.copied y c q, access.copies y c q)) (last (exit_count item.kind b.count == 0) refl))
        where
          made : exit item bs ≡ Some (lowered_move item b bs)
          made = exit_there item bs b (is_there bs item.section b f j)

          access : ExitAccess (is_resting plan i item) item (lowered_move item b bs) (access_of plan i)
          access =
              exit_access (is_resting plan i item) item (lowered_move item b bs) (access_of plan i)
              (subst (λ acts. Covers acts (access_of plan i))
              (acts_exit (is_resting plan i) item bs (lowered_move item b bs) made) covers)

          now : List Block
          now = map (counted b.section (exit_count item.kind b.count)) bs

          last : (z : Bool) → (exit_count item.kind b.count == 0) ≡ z →
              InWalk plan fill i after (filter (is_resting plan i) rest)
              (map (counted b.section (exit_count item.kind b.count)) bs) (left_if z (removal item.section) k)
          last false z =
              followed (lowered_move item b bs) made (map (counted b.section (exit_count item.kind b.count)) bs)
              (sym (cond-false (exit_count item.kind b.count == 0) (without bs b.section)
              (map (counted b.section (exit_count item.kind b.count)) bs) z))
          last true z =
              let nothing : exit_count item.kind b.count ≡ 0 = eqb-true (exit_count item.kind b.count) 0 z in
              let here = removes_here item rest bs b sizes ok above keeps f j nothing access z in (
                here,
                λ x2 m2 n2 same2 small2 e2.
                    followed (lowered_move item b bs) made n2.device.blocks
                    (ap (λ (p : Answer × Memories). p.1.device.blocks)
                    (sym (same_Some (loaded 0, removed item.section m2) (x2, n2) e2))
                    ∙ (removed_there item.section m2 (counted b.section (exit_count item.kind b.count) b)
                    (is_there m2.device.blocks item.section (counted b.section (exit_count item.kind b.count) b)
                    (ap (find (meets item.section)) same2 ∙ found_counted bs b.section item.section
                    (exit_count item.kind b.count) b f) (ap (is_inside item.section)
                    (counted_section b.section (exit_count item.kind b.count) b) ∙ j))
                    ∙ (ap₂ (λ xs s. without xs s) same2 (counted_section b.section (exit_count item.kind b.count) b)
                    ∙ (without_counted bs b.section (exit_count item.kind b.count)
                    ∙ sym (cond-true (exit_count item.kind b.count == 0) (without bs b.section)
                    (map (counted b.section (exit_count item.kind b.count)) bs) z))))),
              )

      go : (o : Option Block) → find (meets item.section) bs ≡ o →
          InWalk plan fill i after (filter (is_resting plan i) rest) n.device.blocks
          (left_if x.copies (section_left CopyOut item.section) (λ u. left_if x.removes (removal item.section) k))
      go None f =
          subst Goal (same_Some (decided false false, m) (x, n)
          (sym (lowered_absent item m (ap (λ xs. presence xs item.section) same ∙ is_absent bs item.section f)) ∙ e))
          (absent f)
      go (Some b) f = by (cases_Bool (is_inside item.section b.section))
        where
          by : (is_inside item.section b.section ≡ true) ⊎ (is_inside item.section b.section ≡ false) → Goal (x, n)
          by (inl j) =
              subst Goal (same_Some (
                decided (exit_copies item (exit_count item.kind b.count))
                    (exit_count item.kind b.count == 0),
                with_blocks
                    (map (counted b.section (exit_count item.kind b.count)) m.device.blocks) m,
              ) (x, n)
              (sym (lowered_there item m b (ap (λ xs. presence xs item.section) same ∙ is_there bs item.section b f j))
              ∙ e)) (present b f j)
          by (inr j) =
              absurd (none-some (x, n) (sym (lowered_part item m (ap (λ xs. presence xs item.section) same ∙ is_part bs
              item.section b f j)) ∙ e))

  -- exits one after the other
  pub exits_walk : (maps : List MapItem) (bs : List Block) (k : Rest) → AreSized maps → AreBlocks bs →
      (is_target w.kind ≡ true → NoDelete maps) →
      (is_target w.kind ≡ true → Above (number_inside maps) (blocks_before plan i) bs) →
      Covers (each_acts (exit_acts (is_resting plan i)) maps bs).actions (access_of plan i) →
      ((now : List Block) → now ≡ (each_acts (exit_acts (is_resting plan i)) maps bs).blocks → InWalk plan fill i after
      [] now (k tt)) → InWalk plan fill i after (filter (is_resting plan i) maps) bs (each_left exit_left maps k)
  exits_walk [] bs k sizes ok keeps above covers next = next bs refl
  exits_walk (item ∷ rest) bs k sizes ok keeps above covers next = (
    record {
      size = sizes.size;
      stands = λ c b e. inl (above_stands (item ∷ rest) bs sizes ok above c b e);
      covers = first_covers;
      there =
          λ r. not_absent (blocks_before plan i) bs (number_inside (item ∷ rest)) item.section sizes.size
          (rests_there item r) (above (is_a_target r));
      keeps = λ r. (keeps (is_a_target r)).keeps;
      first = λ r. leads r;
    },
    λ x m n same small e.
        subst (λ l. InWalk plan fill i after l n.device.blocks
        (left_if x.copies (section_left CopyOut item.section)
        (λ u. left_if x.removes (removal item.section) (λ u. each_left exit_left rest k))))
        (sym (left_is item rest))
        (exit_walks item rest bs (λ u. each_left exit_left rest k) sizes ok
        (λ t. (keeps t).keeps) above first_covers
        (λ now at ok above. exits_walk rest now k sizes.rest ok (λ t. (keeps t).rest) above
        (subst (λ xs. Covers (each_acts (exit_acts (is_resting plan i)) rest xs).actions (access_of plan i))
        (sym at) later)
        (λ last is. next last (is ∙ ap (λ xs. (each_acts (exit_acts (is_resting plan i)) rest xs).blocks) at)))
        x m n same e),
  )
    where
      is_a_target : is_resting plan i item ≡ true → is_target w.kind ≡ true
      is_a_target h = (and_parts (is_target w.kind) (rests (blocks_before plan i) item) (sym (resting_is item) ∙ h)).0

      first_covers : Covers (exit_acts (is_resting plan i) item bs).actions (access_of plan i)
      first_covers =
          covers_left (exit_acts (is_resting plan i) item bs).actions
          (each_acts (exit_acts (is_resting plan i)) rest (exit_acts (is_resting plan i) item bs).blocks).actions
          (access_of plan i) covers

      later : Covers (each_acts (exit_acts (is_resting plan i)) rest
          (exit_acts (is_resting plan i) item bs).blocks).actions (access_of plan i)
      later =
          covers_right (exit_acts (is_resting plan i) item bs).actions
          (each_acts (exit_acts (is_resting plan i)) rest (exit_acts (is_resting plan i) item bs).blocks).actions
          (access_of plan i) covers

      leads : is_resting plan i item ≡ true →
          filter (is_resting plan i) (item ∷ rest) ≡ item ∷ all_but_first (filter (is_resting plan i) (item ∷ rest))
      leads r =
          let f : filter (is_resting plan i) (item ∷ rest) ≡ item ∷ filter (is_resting plan i) rest = cond-true
          (is_resting plan i item) (item ∷ filter (is_resting plan i) rest) (filter (is_resting plan i) rest) r in
          f ∙ ap (λ l. item ∷ all_but_first l) (sym f)
