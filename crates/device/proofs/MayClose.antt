-- What is known where an item may be closed.
use Rattle.std.proofs.Common.{◌≡◌, ◌<◌, ℕ, true, false, List, [], length, Option, Some, None, refl, sym, ap, ◌∙◌, subst, arith, get_or}
use Rattle.std.specs.Prelude.{IsSome, is_some, option_and_then, option_map, slice_get, slice_index}
use Rattle.std.proofs.lemmas.Bool.{false≢true}
use Rattle.std.proofs.lemmas.Option.{same_Some, slice_get-get_or, slice_get_within}
use Rattle.base.specs.declared.item.Event.TheVariants as event
use Rattle.base.specs.declared.item.Item.{Item}
use Rattle.base.specs.declared.item.ItemKind.{ItemKind}
use Rattle.base.specs.declared.item.ItemKind.TheVariants as kind
use Rattle.base.specs.declared.tree.Region.{Region}
use Rattle.base.specs.Memory.{View, Scalars}
use Rattle.base.specs.Meaning.{Run as Region_run, run_list, run_region}
use Rattle.kernel.specs.Rows.{cells_of}
use Rattle.base.specs.Items.{Work, plan}
use Rattle.base.specs.Map.{Memories, in_turn, leave, memories_at}
use Rattle.base.specs.Machine.{Condition, Untouched, Generated, Opened, Closed, Passed, closing, enabled, is_open, kernel_done, kernel_memories, with_memories}
use Rattle.base.specs.Accepted.{is_host, is_target, region_faults}
use Rattle.base.proofs.Closing.{closed_as}
use Rattle.frames.specs.Views.{AreCells}
use Rattle.frames.proofs.KeptRuns.{kept_leaves}
use Rattle.frames.proofs.TouchedCells.{stores_are_cells}
use Rattle.kernel.specs.Kept.{IsKept, Kept, kept_of}
use Rattle.kernel.specs.declared.frames.Frame.{Frame}
use Rattle.lower.specs.Image.{IsRegionOf}
use Rattle.outline.specs.Regions.{Entry}
use Rattle.outline.specs.Shown.{all_shown, as_shown}
use Rattle.present.specs.Rows.{with_numbers}
use Rattle.present.specs.Table.{Shows as TableShows, memories}
use Rattle.taskgraph.specs.Board.{allows}
use Rattle.two_memories.proofs.PlanItems.{on_true}
use Rattle.device.specs.declared.standing.Held.{Held}
use Rattle.device.specs.declared.standing.Held.TheVariants as held
use Rattle.device.specs.declared.state.RunState.TheInside.{Inside}
use Rattle.device.specs.Closing.{GoesOut, HasRegion, HostsAreHere, IsLeftBy}
use Rattle.device.specs.Run.{Run, fill_in, state_of}
use Rattle.device.specs.Running.{Shows, run_of}
use Rattle.device.specs.Standing.{IsFrameOf, IsIssued, Keeps, done_on, input_for}
use Rattle.device.proofs.Closings.{IsClosed, IsKernelDone, is_closed, is_kernel_done}
use Rattle.device.proofs.MayOpen.{IsItem, is_item}
use Rattle.device.proofs.Reaching.{Before, Next, asked, before, next}
use Rattle.device.proofs.Regions.{placed_at}
use Rattle.device.proofs.Starts.{as_many}
use Rattle.device.proofs.Validity.{hosts_here, valid}

-- an open item has captured scalars and a snapshot
pub record OpenAt (c : Condition) : Type 0 where
  pub captured : Scalars
  pub snapshot : View
  pub is : c ≡ Opened captured snapshot

pub open_at : (c : Condition) → is_open c ≡ true → OpenAt c
open_at Untouched h = absurd (false≢true h)
open_at (Generated a) h = absurd (false≢true h)
open_at (Opened a v) h = record { captured = a; snapshot = v; is = refl }
open_at Closed h = absurd (false≢true h)
open_at Passed h = absurd (false≢true h)

abbrev captured_in : Condition → Scalars
captured_in (Opened a v) = a
captured_in Untouched = λ x. 0
captured_in (Generated a) = a
captured_in Closed = λ x. 0
captured_in Passed = λ x. 0

abbrev snapshot_in : Condition → View
snapshot_in (Opened a v) = v
snapshot_in Untouched = λ c. None
snapshot_in (Generated a) = λ c. None
snapshot_in Closed = λ c. None
snapshot_in Passed = λ c. None

-- an item that may be closed is one of the items
pub inside_close : (s : Inside) (v : Run) (i : ℕ) (entries : List Entry) (its : List Item) → run_of s ≡ v → Shows s →
    enabled (plan v.program) (state_of v) (event.Close i) ≡ true → all_shown entries its ≡ as_shown (plan (run_of s).program).items →
    i < length its
inside_close s v i entries its is h may e =
    let p = plan (run_of s).program in
    let f = on_true p i (λ w. is_open ((state_of (run_of s)).condition i)) (asked s v (event.Close i) is may) in
    let many = as_many entries its p.items e in
    let inside = slice_get_within p.items i f.0 f.1 in
    omega arith

-- all that is known where an item is closed
pub record CloseFacts (s : Inside) (i : ℕ) (it : Item) : Type 0 where
  pub going : s.standing.ended ≡ false
  pub allowed : allows s.standing.graph (event.Close i) ≡ true
  pub item : IsItem (run_of s) s.standing i it
  pub captured : Scalars
  pub snapshot : View
  pub opened : (state_of (run_of s)).condition i ≡ Opened captured snapshot
  pub next : Next (run_of s) (event.Close i)
  pub hosts : HostsAreHere (plan (run_of s).program) (state_of (run_of s))
  pub region : HasRegion item.work

pub close_facts : (s : Inside) (v : Run) (i : ℕ) (entries : List Entry) (its : List Item) (it : Item) → run_of s ≡ v → Shows s →
    enabled (plan v.program) (state_of v) (event.Close i) ≡ true → all_shown entries its ≡ as_shown (plan (run_of s).program).items →
    it ≡ get_or its i it → CloseFacts s i it
close_facts s v i entries its it is h may e at = record {
  going = b.going;
  allowed = b.allowed;
  item = k;
  captured = o.captured;
  snapshot = o.snapshot;
  opened = o.is;
  next = next r (event.Close i) h.reached asked_for;
  hosts =
      hosts_here r.program (fill_in r) r.input r.history (state_of r)
      (λ j w at host. ((valid r.program h.reached.accepted (fill_in r) (λ i c. h.reached.fresh) r.input h.reached.numbers r.history
      (state_of r) h.reached.ran).lawful j w at).host_here host) h.reached.ran;
  region =
      let p = placed_at r.program i k.work k.is in
      (λ e. p.host e, λ e. p.target e);
}
  where
    r : Run
    r = run_of s

    asked_for : enabled (plan (run_of s).program) (state_of (run_of s)) (event.Close i) ≡ true
    asked_for = asked s v (event.Close i) is may

    b : Before (run_of s) s.standing (event.Close i)
    b = before (run_of s) s.standing (event.Close i) h asked_for

    f : (w : Work) × (slice_get (plan (run_of s).program).items i ≡ Some w) × (is_open ((state_of (run_of s)).condition i) ≡ true)
    f = on_true (plan (run_of s).program) i (λ w. is_open ((state_of (run_of s)).condition i)) asked_for

    o : OpenAt ((state_of (run_of s)).condition i)
    o = open_at ((state_of (run_of s)).condition i) f.2

    k : IsItem (run_of s) s.standing i it
    k =
        is_item (run_of s) s.standing h entries its e i it f.0
        (slice_get-get_or its i it (inside_close s v i entries its is h may e) ∙ ap (λ (x : Item). Some x) (sym at)) f.1

module _ (s : Inside) (i : ℕ) (it : Item) (h : Shows s) (f : CloseFacts s i it) where
  -- the frame that is kept is that of the item
  pub frame_is : (frame : Frame) → slice_get s.standing.held.items i ≡ Some (held.Issued frame) →
      IsFrameOf i f.item.work f.captured f.snapshot (state_of (run_of s)).input frame
  frame_is frame e =
      subst (IsIssued i f.item.work f.captured f.snapshot (state_of (run_of s)).input) e
      (subst (λ (c : Condition). Keeps i f.item.work (state_of (run_of s)).input c (slice_get s.standing.held.items i)) f.opened
      (h.at.held i f.item.work f.item.is))

  -- some frame is
  pub is_issued : (x : Held) → slice_get s.standing.held.items i ≡ Some x → (g : Frame) × (x ≡ held.Issued g)
  is_issued x e =
      go x (subst (IsIssued i f.item.work f.captured f.snapshot (state_of (run_of s)).input) e
      (subst (λ (c : Condition). Keeps i f.item.work (state_of (run_of s)).input c (slice_get s.standing.held.items i)) f.opened
      (h.at.held i f.item.work f.item.is)))
    where
      go : (x : Held) → IsIssued i f.item.work f.captured f.snapshot (state_of (run_of s)).input (Some x) → (g : Frame) × (x ≡ held.Issued g)
      go held.Nothing k = absurd k
      go (held.Captured b) k = absurd k
      go (held.Issued g) k = (g, refl)

  closed : IsClosed (plan (run_of s).program) i f.item.work (state_of (run_of s)) f.next.state
  closed = is_closed (plan (run_of s).program) (fill_in (run_of s)) i f.item.work (state_of (run_of s)) f.next.state f.item.is f.next.step

  done_as : closed_as f.item.work f.captured f.snapshot (state_of (run_of s)) f.item.work.kind f.item.work.region ≡ Some closed.left
  done_as = ap (λ c. closing f.item.work c (state_of (run_of s))) (sym f.opened) ∙ closed.is

  -- the region of the item has a meaning
  has_meaning : (r : Region) → f.item.work.region ≡ Some r →
      is_some (run_region r f.item.work.loops f.snapshot f.captured (input_for f.item.work.kind (state_of (run_of s)).input)) ≡ true
  has_meaning r e = go f.item.work.kind refl (subst (λ o. closed_as f.item.work f.captured f.snapshot (state_of (run_of s)) f.item.work.kind o ≡ Some closed.left) e done_as)
    where
      some_map : {A B : Type 0} (g : A → B) (o : Option A) (y : B) → option_map g o ≡ Some y → is_some o ≡ true
      some_map g None y k = absurd cc
      some_map g (Some a) y k = refl

      some_then : {A B : Type 0} (g : A → Option B) (o : Option A) (y : B) → option_and_then g o ≡ Some y → is_some o ≡ true
      some_then g None y k = absurd cc
      some_then g (Some a) y k = refl

      none : (kd : ItemKind) → f.item.work.kind ≡ kd → is_host kd ≡ false → is_target kd ≡ false → {A : Type 0} → A
      none kd k a b =
          absurd (let bad : None ≡ Some r = sym ((placed_at (run_of s).program i f.item.work f.item.is).other (ap is_host k ∙ a) (ap is_target k ∙ b)) ∙ e in cc)

      go : (kd : ItemKind) → f.item.work.kind ≡ kd → closed_as f.item.work f.captured f.snapshot (state_of (run_of s)) kd (Some r) ≡ Some closed.left →
          is_some (run_region r f.item.work.loops f.snapshot f.captured (input_for kd (state_of (run_of s)).input)) ≡ true
      go kind.Host k d = some_map _ _ closed.left d
      go kind.Target k d = some_then _ _ closed.left d
      go kind.Begin k d = none kind.Begin k refl refl
      go kind.End k d = none kind.End k refl refl
      go kind.Enter k d = none kind.Enter k refl refl
      go kind.Exit k d = none kind.Exit k refl refl
      go kind.Update k d = none kind.Update k refl refl
      go kind.Wait k d = none kind.Wait k refl refl

  -- the code of an item whose region is known
  known_region : {o : Option Region} (code : Region) → f.item.work.region ≡ o → IsRegionOf f.item.work.region code →
      IsRegionOf o code
  known_region code e of = subst (λ (p : Option Region). IsRegionOf p code) e of

  meaning : (code : Region) (frame : Frame) (r : Region) → IsRegionOf f.item.work.region code →
      slice_get s.standing.held.items i ≡ Some (held.Issued frame) → f.item.work.region ≡ Some r →
      done_on code frame ≡ run_region r f.item.work.loops f.snapshot f.captured (input_for f.item.work.kind (state_of (run_of s)).input)
  meaning code frame r of e region =
      ap (λ y. done_on y frame) (known_region code region of) ∙ sym ((frame_is frame e).meaning r region)

  -- a region without statements does nothing
  nothing : (code : Region) (frame : Frame) → code.body.items ≡ [] → (o : Option Region_run) → done_on code frame ≡ o → o ≡ Some
      (record { scalars = slice_index frame.scalars; stores = []; input = frame.input.now; printed = [] })
  nothing code frame none o e =
      sym e ∙ ap (λ xs. run_list xs (cells_of frame.rows.items) frame.loops.now.values.items
      (record { scalars = slice_index frame.scalars; stores = []; input = frame.input.now; printed = [] })) none

  pub runs : (code : Region) (frame : Frame) → IsRegionOf f.item.work.region code → slice_get s.standing.held.items i ≡ Some (held.Issued frame) →
      IsSome (done_on code frame)
  runs code frame of e = go f.item.work.region refl
    where
      go : (o : Option Region) → f.item.work.region ≡ o → IsSome (done_on code frame)
      go None region = ap is_some (nothing code frame (known_region code region of) (done_on code frame) refl)
      go (Some r) region = ap is_some (meaning code frame r of e region) ∙ has_meaning r region

  pub left_by : (code : Region) (frame : Frame) (k : Kept) → IsRegionOf f.item.work.region code →
      slice_get s.standing.held.items i ≡ Some (held.Issued frame) → IsKept (done_on code frame) k → IsLeftBy i f.item.work (state_of (run_of s)) k
  left_by code frame k of e kept a v r opened region =
      let same = sym f.opened ∙ opened in
      subst (λ (y : Scalars). IsKept (run_region r f.item.work.loops v y (input_for f.item.work.kind (state_of (run_of s)).input)) k)
      (ap captured_in same)
      (subst (λ (y : View). IsKept (run_region r f.item.work.loops y f.captured (input_for f.item.work.kind (state_of (run_of s)).input)) k)
      (ap snapshot_in same)
      (subst (λ y. IsKept y k) (meaning code frame r of e region) kept))

  pub cells : (code : Region) (frame : Frame) (k : Kept) → IsRegionOf f.item.work.region code →
      slice_get s.standing.held.items i ≡ Some (held.Issued frame) → IsKept (done_on code frame) k →
      AreCells (plan (run_of s).program).lengths k.stored
  cells code frame k of e kept = go f.item.work.region refl
    where
      g : IsFrameOf i f.item.work f.captured f.snapshot (state_of (run_of s)).input frame
      g = frame_is frame e

      go : (o : Option Region) → f.item.work.region ≡ o → AreCells (plan (run_of s).program).lengths k.stored
      go (Some r) region =
          stores_are_cells r frame.loops.now.values.items (plan (run_of s).program).lengths (cells_of frame.rows.items) (slice_index frame.scalars)
          frame.input.now k g.small g.bounded
          (ap (λ l. region_faults (plan (run_of s).program).lengths l (Some r)) g.loops ∙ f.item.fine.region r region)
          (subst (λ y. IsKept (done_on y frame) k) (known_region code region of) kept)
      go None region = λ c n stored.
          let none = subst (λ y. IsKept y k) (nothing code frame (known_region code region of) (done_on code frame) refl) kept in
          absurd (let bad : None ≡ Some n = ap (λ (y : Kept). y.stored c) (same_Some (kept_of (record {
            scalars = slice_index frame.scalars;
            stores = [];
            input = frame.input.now;
            printed = [];
          })) k none) ∙ stored in cc)

  pub goes_out : (k : Kept) → IsLeftBy i f.item.work (state_of (run_of s)) k → it.kind ≡ kind.Target →
      GoesOut it.device.number k.stored it.maps.items s.standing
  goes_out k left target = region f.item.work.region refl
    where
      is_target_work : f.item.work.kind ≡ kind.Target
      is_target_work = f.item.of.kind ∙ target

      out : (run : Region_run) (m : Memories) → IsKept (Some run) k →
          IsKernelDone f.item.work run.stores (memories_at f.item.work.device (state_of (run_of s)).memories) m →
          GoesOut it.device.number k.stored it.maps.items s.standing
      out run m kept gone t has =
          let own = (state_of (run_of s)).memories.devices f.item.work.device in
          let l = kept_leaves run k kept in
          let d_is = l.device own gone.device gone.stored in
          record {
            device = own;
            shown =
                subst (λ d. TableShows t ((state_of (run_of s)).memories.devices d)) (sym f.item.of.device)
                (h.at.devices it.device.number t has);
            after = m;
            is =
                ap (λ ms. in_turn leave ms (memories s.standing.host (with_numbers k.stored own))) (sym f.item.of.maps)
                ∙ (λ j. in_turn leave f.item.work.maps (record { host = sym h.at.host j; device = d_is j })) ∙ gone.is;
          }

      done : (run : Region_run) → IsKept (Some run) k → (q : Option Memories) →
          kernel_memories f.item.work run.stores (memories_at f.item.work.device (state_of (run_of s)).memories) ≡ q →
          option_map (λ m. with_memories f.item.work.device m (state_of (run_of s))) q ≡ Some closed.left →
          GoesOut it.device.number k.stored it.maps.items s.standing
      done run kept None g e = absurd cc
      done run kept (Some m) g e =
          out run m kept
          (is_kernel_done f.item.work run.stores (memories_at f.item.work.device (state_of (run_of s)).memories) m g)

      ran : (o : Option Region_run) → IsKept o k → option_and_then (kernel_done f.item.work (state_of (run_of s))) o ≡ Some closed.left →
          GoesOut it.device.number k.stored it.maps.items s.standing
      ran None kept e = absurd cc
      ran (Some run) kept e =
          done run kept (kernel_memories f.item.work run.stores (memories_at f.item.work.device (state_of (run_of s)).memories))
          refl e

      region : (o : Option Region) → f.item.work.region ≡ o → GoesOut it.device.number k.stored it.maps.items s.standing
      region None e = absurd (false≢true (subst IsSome e (f.region.1 (ap is_target is_target_work))))
      region (Some r) e =
          ran (run_region r f.item.work.loops f.snapshot f.captured [])
          (subst (λ (y : ItemKind). IsKept (run_region r f.item.work.loops f.snapshot f.captured (input_for y (state_of (run_of s)).input)) k)
          is_target_work (left f.captured f.snapshot r f.opened e))
          (subst (λ (y : ItemKind). closed_as f.item.work f.captured f.snapshot (state_of (run_of s)) y (Some r) ≡ Some closed.left) is_target_work
          (subst (λ (y : Option Region). closed_as f.item.work f.captured f.snapshot (state_of (run_of s)) f.item.work.kind y ≡ Some closed.left) e done_as))
