-- The frames of items.
use Rattle.std.proofs.Common.{◌≡◌, ◌<◌, ◌^◌, ℕ, zero, suc, true, false, List, [], ◌∷◌, length, Option, Some, None, refl, sym, ap, ◌∙◌, subst, arith, All}
use Rattle.std.specs.Prelude.{IsSome, slice_get, slice_index}
use Rattle.std.proofs.lemmas.Bool.{false≢true, true≢false}
use Rattle.std.proofs.lemmas.Option.{same_Some}
use Rattle.std.proofs.lemmas.List.Elements.{All-nil}
use Rattle.base.specs.declared.item.Cell.{Cell}
use Rattle.base.specs.declared.item.Section.{Section}
use Rattle.base.specs.declared.item.ItemKind.{ItemKind}
use Rattle.base.specs.declared.item.ItemKind.TheVariants as kind
use Rattle.base.specs.declared.tree.Program.{Program}
use Rattle.base.specs.declared.tree.Region.{Region}
use Rattle.host_memory.specs.Arrays.{lengths_of, memory_of}
use Rattle.base.specs.Memory.{View, Scalars, view_of}
use Rattle.base.specs.Meaning.{run_region}
use Rattle.base.specs.Items.{Work, Plan, plan}
use Rattle.base.specs.Map.{Memories, enter, in_turn, memories_at}
use Rattle.base.specs.Machine.{State, Condition, Untouched, Generated, Opened, Closed, Passed, captured_by, is_waiting, opening, worked_on}
use Rattle.base.specs.Footprint.{touches_of}
use Rattle.base.specs.Accepted.{is_host, is_target}
use Rattle.base.specs.Actions.{touches_in}
use Rattle.frames.specs.Laws.{AreSmall, IsFine}
use Rattle.ranges.specs.Reach.{is_touched}
use Rattle.frames.specs.Reach.{HasTouched, in_reach}
use Rattle.frames.specs.Views.{every}
use Rattle.frames.proofs.TouchedCells.{host_frame_means, kernel_frame_means}
use Rattle.frames.proofs.Storage.{entries_give_storage}
use Rattle.kernel.specs.declared.frames.Frame.{Frame}
use Rattle.kernel.specs.Rows.{cells_of}
use Rattle.lower.specs.Image.{IsReach}
use Rattle.present.specs.declared.Table.{Table}
use Rattle.present.specs.Rows.{over}
use Rattle.present.specs.Table.{number_at}
use Rattle.regions.specs.Footprints.{BoundedScalars, BoundedView}
use Rattle.two_memories.specs.Two.{BoundedCondition, IsBounded}
use Rattle.device.specs.declared.frame.Unfilled.{Unfilled}
use Rattle.device.specs.declared.standing.Held.{Held}
use Rattle.device.specs.declared.standing.Standing.{Standing}
use Rattle.device.specs.Framing.{Captures}
use Rattle.device.specs.Opening.{HasCells, IsFilled, Serves}
use Rattle.device.specs.Standing.{IsAt, IsCaptured, IsFrameOf, Keeps, done_on, fill_from, input_for}
use Rattle.device.proofs.Regions.{placed_at}

-- an item that there is
pub some_work : (ws : List Work) (i : ℕ) → i < length ws → (w : Work) × (slice_get ws i ≡ Some w)
some_work [] i lt = absurd (omega arith)
some_work (w ∷ ws) zero lt = (w, refl)
some_work (w ∷ ws) (suc i) lt = some_work ws i (omega arith)

-- Captured scalars.

waits_generated : (i : ℕ) (w : Work) (input : List ℕ) (c : Condition) (scalars : Scalars) (o : Option Held) →
    is_waiting true c ≡ true → Keeps i w input c o → IsCaptured (captured_by c scalars) o
waits_generated i w input Untouched scalars o h keeps = absurd (false≢true h)
waits_generated i w input (Generated a) scalars o h keeps = keeps
waits_generated i w input (Opened a v) scalars o h keeps = absurd (false≢true h)
waits_generated i w input Closed scalars o h keeps = absurd (false≢true h)
waits_generated i w input Passed scalars o h keeps = absurd (false≢true h)

pub captures_kept : (now : Standing) (i : ℕ) (p : Plan) (s : State) (w : Work) → IsAt p now s → slice_get p.items i ≡ Some w →
    w.deferred ≡ true → is_waiting w.deferred (s.condition i) ≡ true →
    IsCaptured (captured_by (s.condition i) s.scalars) (slice_get now.held.items i)
captures_kept now i p s w at is d waits =
    waits_generated i w s.input (s.condition i) s.scalars (slice_get now.held.items i)
    (subst (λ b. is_waiting b (s.condition i) ≡ true) d waits) (at.held i w is)

captured_small : (c : Condition) (scalars : Scalars) → BoundedScalars scalars → BoundedCondition c → BoundedScalars (captured_by c scalars)
captured_small Untouched scalars b h = b
captured_small (Generated a) scalars b h = h
captured_small (Opened a v) scalars b h = b
captured_small Closed scalars b h = b
captured_small Passed scalars b h = b

-- what every frame of an item has
pub record IsFramed (i : ℕ) (loops scalars : List ℕ) (f : Frame) : Type 0 where
  pub item : f.item ≡ i
  pub loops' : f.loops.now.values.items ≡ loops
  pub scalars' : f.scalars ≡ scalars

module _ (p : Program) (now : Standing) (i : ℕ) (scalars : List ℕ) (given : Unfilled)
    (s : State) (w : Work) (at : IsAt (plan p) now s) (b : IsBounded s) (fine : IsFine (plan p).lengths w)
    (is : slice_get (plan p).items i ≡ Some w) (waits : is_waiting w.deferred (s.condition i) ≡ true)
    (captures : Captures now w.deferred i scalars) where
  abbrev reach : List Section
  reach = given.reach.now

  abbrev frame : Frame
  frame = given.frame

  same_scalars : slice_index scalars ≡ captured_by (s.condition i) s.scalars
  same_scalars = captures (plan p) s w at is refl waits

  small : (input : List ℕ) → All (λ n. n < 2 ^ 64) input → AreSmall w.loops (slice_index scalars) input
  small input h = record {
    small_loops = fine.loops;
    small_scalars = subst BoundedScalars (sym same_scalars) (captured_small (s.condition i) s.scalars b.scalars (b.condition i));
    small_input = h;
  }

  small_of : (f : Frame) → IsFramed i w.loops scalars f → (input : List ℕ) → f.input.now ≡ input → All (λ n. n < 2 ^ 64) input →
      AreSmall f.loops.now.values.items (slice_index f.scalars) f.input.now
  small_of f framed input e h =
      subst (λ (n : List ℕ). AreSmall f.loops.now.values.items (slice_index f.scalars) n) (sym e)
      (subst (λ (n : List ℕ). AreSmall f.loops.now.values.items (slice_index n) input) (sym framed.scalars')
      (subst (λ (n : List ℕ). AreSmall n (slice_index scalars) input) (sym framed.loops') (small input h)))

  -- the touches of an item's region
  touches_as : (r : Region) → w.region ≡ Some r → touches_in w ≡ touches_of r w.loops
  touches_as r e = ap (λ (o : Option Region). touches_in (record w { region = o })) e

  touched_as : (r : Region) → w.region ≡ Some r → IsReach (plan p).lengths w reach → HasTouched reach (touches_of r w.loops)
  touched_as r e reached = subst (HasTouched reach) (touches_as r e) reached.touched

  -- what a region does on a frame, by what the frame has
  on_frame : (f : Frame) (r : Region) (u : View) (input : List ℕ) → IsFramed i w.loops scalars f → cells_of f.rows.items ≡ u →
      f.input.now ≡ input → done_on r f ≡ run_region r w.loops u (captured_by (s.condition i) s.scalars) input
  on_frame f r u input framed cells e =
      (λ j. run_region r (framed.loops' j) (cells j) (slice_index (framed.scalars' j)) (e j))
      ∙ ap (λ (n : Scalars). run_region r w.loops u n input) same_scalars

  pub host_serves : w.kind ≡ kind.Host → IsReach (plan p).lengths w reach → IsFramed i w.loops scalars frame →
      frame.input.now ≡ now.input.now → BoundedView (cells_of frame.rows.items) →
      cells_of frame.rows.items ≡ in_reach reach (view_of (lengths_of now.host) (memory_of now.host)) → Serves (plan p) now s i w given
  host_serves k reached framed input bounded cells m t f opened shown filled =
      subst (λ (g : Frame). IsFrameOf i w (captured_by (s.condition i) s.scalars) (worked_on (plan p).lengths w.kind m) s.input g)
      (sym (subst (λ (y : ItemKind). IsFilled y given t f) k filled)) made
    where
      same : memories_at w.device s.memories ≡ m
      same = same_Some (memories_at w.device s.memories) m
          (subst (λ (y : ItemKind). opening (fill_from now i) (record w { kind = y }) (memories_at w.device s.memories) ≡ Some m) k opened)

      view : in_reach reach (view_of (lengths_of now.host) (memory_of now.host)) ≡ in_reach reach (view_of (plan p).lengths m.host)
      view = λ j. in_reach reach (view_of (at.lengths j) ((sym at.host ∙ ap (λ (x : Memories). x.host) same) j))

      input_is : frame.input.now ≡ s.input
      input_is = input ∙ sym at.input

      u : View
      u = in_reach reach (view_of (plan p).lengths m.host)

      meaning : (r : Region) → w.region ≡ Some r →
          run_region r w.loops (worked_on (plan p).lengths w.kind m) (captured_by (s.condition i) s.scalars) (input_for w.kind s.input) ≡ done_on r frame
      meaning r e =
          ap (λ (y : ItemKind). run_region r w.loops (worked_on (plan p).lengths y m) (captured_by (s.condition i) s.scalars) (input_for y s.input)) k
          ∙ sym (on_frame frame r (in_reach reach (view_of (plan p).lengths m.host)) s.input framed (cells ∙ view) input_is
          ∙ ap (λ (n : Scalars). run_region r w.loops (in_reach reach (view_of (plan p).lengths m.host)) n s.input) (sym same_scalars)
          ∙ host_frame_means r w.loops (plan p).lengths reach m.host (in_reach reach (view_of (plan p).lengths m.host)) (slice_index scalars) s.input
          (small s.input b.input) (subst BoundedView (cells ∙ view) bounded) (touched_as r e reached) refl
          ∙ ap (λ (n : Scalars). run_region r w.loops (view_of (plan p).lengths m.host) n s.input) same_scalars)

      made : IsFrameOf i w (captured_by (s.condition i) s.scalars) (worked_on (plan p).lengths w.kind m) s.input frame
      made = record {
        item = framed.item;
        bounded = bounded;
        small = small_of frame framed s.input input_is b.input;
        loops = framed.loops';
        meaning = meaning;
      }

  pub kernel_serves : w.kind ≡ kind.Target → IsReach (plan p).lengths w reach → IsFramed i w.loops scalars frame →
      frame.input.now ≡ [] → Serves (plan p) now s i w given
  kernel_serves k reached framed input m t f opened shown filled = record {
    item = has.item ∙ framed.item;
    bounded = has.bounded;
    small = small_of f framed' [] input_is (All-nil (λ n. n < 2 ^ 64));
    loops = has.loops ∙ framed.loops';
    meaning = meaning;
  }
    where
      has : HasCells frame (in_reach reach (over (number_at t) (every 0))) f
      has = subst (λ (y : ItemKind). IsFilled y given t f) k filled

      framed' : IsFramed i w.loops scalars f
      framed' = record { item = has.item ∙ framed.item; loops' = has.loops ∙ framed.loops'; scalars' = has.scalars ∙ framed.scalars' }

      input_is : f.input.now ≡ []
      input_is = has.input ∙ input

      entered : in_turn (enter (fill_from now i)) w.maps (memories_at w.device s.memories) ≡ Some m
      entered = subst (λ (y : ItemKind). opening (fill_from now i) (record w { kind = y }) (memories_at w.device s.memories) ≡ Some m) k opened

      stored : (r : Region) → w.region ≡ Some r → (c : Cell) → is_touched (touches_of r w.loops) c ≡ true → IsSome (m.device.cells c)
      stored r e c touched =
          entries_give_storage (fill_from now i) w.maps (memories_at w.device s.memories) m t entered shown c
          (fine.mapped (ap is_target k) c (ap (λ ts. is_touched ts c) (touches_as r e) ∙ touched))

      meaning : (r : Region) → w.region ≡ Some r →
          run_region r w.loops (worked_on (plan p).lengths w.kind m) (captured_by (s.condition i) s.scalars) (input_for w.kind s.input) ≡ done_on r f
      meaning r e =
          ap (λ (y : ItemKind). run_region r w.loops (worked_on (plan p).lengths y m) (captured_by (s.condition i) s.scalars) (input_for y s.input)) k
          ∙ sym (on_frame f r (in_reach reach (over (number_at t) (every 0))) [] framed' has.cells input_is
          ∙ ap (λ (n : Scalars). run_region r w.loops (in_reach reach (over (number_at t) (every 0))) n []) (sym same_scalars)
          ∙ kernel_frame_means r w.loops reach t m.device (in_reach reach (over (number_at t) (every 0))) (slice_index scalars) []
          (small [] (All-nil (λ n. n < 2 ^ 64))) (subst BoundedView has.cells has.bounded) (touched_as r e reached) shown
          (stored r e) refl
          ∙ ap (λ (n : Scalars). run_region r w.loops m.device.cells n []) same_scalars)

  no_rows : (f : Frame) → f.rows.items ≡ [] → BoundedView (cells_of f.rows.items)
  no_rows f e = subst (λ rows. BoundedView (cells_of rows)) (sym e) (λ c n e. absurd (cc e))

  no_region : (r : Region) → is_host w.kind ≡ false → is_target w.kind ≡ false → w.region ≡ Some r → ⊥
  no_region r h k e = none_some (sym ((placed_at p i w is).other h k) ∙ e)
    where
      none_some : None ≡ Some r → ⊥
      none_some e = cc e

  pub plain_serves : is_host w.kind ≡ false → is_target w.kind ≡ false → IsFramed i w.loops scalars frame →
      frame.input.now ≡ [] → frame.rows.items ≡ [] → Serves (plan p) now s i w given
  plain_serves h k framed input rows m t f opened shown filled =
      subst (λ (g : Frame). IsFrameOf i w (captured_by (s.condition i) s.scalars) (worked_on (plan p).lengths w.kind m) s.input g)
      (sym (plain_filled w.kind h k t f filled)) (record {
        item = framed.item;
        bounded = no_rows frame rows;
        small = small_of frame framed [] input (All-nil (λ n. n < 2 ^ 64));
        loops = framed.loops';
        meaning = λ r e. absurd (no_region r h k e);
      })
    where
      plain_filled : (y : ItemKind) → is_host y ≡ false → is_target y ≡ false → (t : Table) (f : Frame) → IsFilled y given t f →
          f ≡ frame
      plain_filled kind.Host h k t f filled = absurd (true≢false h)
      plain_filled kind.Target h k t f filled = absurd (true≢false k)
      plain_filled kind.Begin h k t f filled = filled
      plain_filled kind.End h k t f filled = filled
      plain_filled kind.Enter h k t f filled = filled
      plain_filled kind.Exit h k t f filled = filled
      plain_filled kind.Update h k t f filled = filled
      plain_filled kind.Wait h k t f filled = filled
