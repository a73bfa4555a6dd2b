-- A kernel done action by action, with nothing in between, in whatever order its turns go on, stores what it stores where
-- its turns are one after the other.
use Rattle.std.proofs.Common.{◌≡◌, ℕ, zero, suc, ◌<◌, ◌^◌, ◌∙◌, ap, Bool, true, false, List, [], Some, None, refl, sym, subst}
use Rattle.std.specs.Prelude.{not, ◌&&◌, ◌||◌, slice_get}
use Rattle.std.specs.List.{list_any}
use Rattle.std.proofs.lemmas.Bool.{false≢true, and_from, or_left, or_right, false_from_ne_true}
use Rattle.base.specs.declared.item.Cell.{Cell}
use Rattle.base.specs.declared.item.MapItem.{MapItem}
use Rattle.base.specs.declared.tree.Region.{Region}
use Rattle.base.specs.declared.fault.RefusalCode.TheVariants.{TurnsMeet, Unmapped}
use Rattle.base.specs.Memory.{View, Scalars, is_in}
use Rattle.base.specs.Meaning.{Run, run_region}
use Rattle.base.specs.Items.{Work, Plan}
use Rattle.base.specs.Map.{Memories, Fill, enter, in_turn}
use Rattle.base.specs.Footprint.{reads, writes, touches_of}
use Rattle.base.specs.Actions.{touches_in}
use Rattle.base.specs.Turns.{turns_at, turns_in_work, turns_meet, Independent}
use Rattle.base.specs.Accepted.{IsAccepted, Refused, cause, current_before, is_target}
use Rattle.fine_machine.specs.Left.{Left, kernel_left}
use Rattle.fine_machine.specs.Machine.{State}
use Rattle.regions.specs.Footprints.{BoundedScalars, BoundedView}
use Rattle.regions.proofs.Needs.{Every, every_map}
use Rattle.regions.proofs.StatementsDone.{AllSmall}
use Rattle.regions.proofs.ValueBounds.{there_at}
use Rattle.two_memories.proofs.AdjustedCounts.{the_stage, stage_at, on_stage_at}
use Rattle.two_memories.proofs.BoundedMemories.{BoundedMemories, enter_bounded, in_turn_keeps}
use Rattle.two_memories.proofs.MapLists.{AreSized}
use Rattle.fine_headline.specs.FineState.{IsBounded}
use Rattle.fine_headline.proofs.Reaching.{Reaches, bare}
use Rattle.fine_headline.proofs.RegionReaching.{stored_on_device, in_order_reaches}
use Rattle.fine_headline.proofs.TurnAlone.{begins}
use Rattle.fine_headline.proofs.Regional.{Allowed}
use Rattle.fine_headline.proofs.RegionAllowed.{touches_allowed}
use Rattle.fine_headline.proofs.TurnTotal.{Has}
use Rattle.fine_headline.proofs.UnorderedTurns.{unordered_reaches}

-- the turns of a target of an accepted program are independent
pub turns_apart : (plan : Plan) → IsAccepted plan → (i : ℕ) (w : Work) → slice_get plan.items i ≡ Some w →
    is_target w.kind ≡ true → Independent (turns_in_work w)
turns_apart plan accepted i w at target c =
    false_from_ne_true (turns_meet (turns_in_work w) c)
    (λ h. accepted.sound (Refused (record { code = TurnsMeet; item = i; cell = c; other = None }))
    (on_stage_at plan i (the_stage plan i w) (stage_at plan i w at) false
    (λ s. cause TurnsMeet s (current_before plan i) c)
    ∙ and_from (is_target w.kind) (turns_meet (turns_in_work w) c) target h))

turns_are : (w : Work) (r : Region) → w.region ≡ Some r → turns_in_work w ≡ turns_at r.depth r.body.items w.loops
turns_are w r e = rw (e, turns_in_work) refl

-- a cell that it touches is in one of its map items
unmapped_not : (x y z : Bool) → (x && (y && not z)) ≡ false → x ≡ true → y ≡ true → z ≡ true
unmapped_not false y z h i j = absurd (false≢true i)
unmapped_not true false z h i j = absurd (false≢true j)
unmapped_not true true true h i j = refl
unmapped_not true true false h i j = sym h

pub is_mapped : (plan : Plan) → IsAccepted plan → (i : ℕ) (w : Work) → slice_get plan.items i ≡ Some w →
    is_target w.kind ≡ true → (c : Cell) → (reads (touches_in w) c || writes (touches_in w) c) ≡ true →
    list_any (λ m. is_in c m.section) w.maps ≡ true
is_mapped plan accepted i w at target c touched =
    unmapped_not (is_target w.kind) (reads (touches_in w) c || writes (touches_in w) c)
    (list_any (λ m. is_in c m.section) w.maps)
    (false_from_ne_true _
    (λ h. accepted.sound (Refused (record { code = Unmapped; item = i; cell = c; other = None }))
    (on_stage_at plan i (the_stage plan i w) (stage_at plan i w at) false
    (λ s. cause Unmapped s (current_before plan i) c) ∙ h))) target touched

touches_are : (w : Work) (r : Region) → w.region ≡ Some r → touches_in w ≡ touches_of r w.loops
touches_are w r e = rw (e, touches_in) refl

abbrev HasCell : View → Cell → Type 0
HasCell v c = (n : ℕ) × (v c ≡ Some n)

-- a memory that has each cell that an item touches
pub all_there : (w : Work) (r : Region) (v : View) → w.region ≡ Some r →
    ((c : Cell) → (reads (touches_in w) c || writes (touches_in w) c) ≡ true → (n : ℕ) × (v c ≡ Some n)) →
    Every (Has v) (touches_of r w.loops)
all_there w r v e h =
    every_map (Allowed (λ mark. HasCell v) (λ mark. HasCell v)) (Has v)
    (λ t a c i. go t.is_write (λ f. a.read f c i) (λ f. a.written f c i)) (touches_of r w.loops)
    (touches_allowed (HasCell v) (HasCell v) (touches_of r w.loops)
    (λ c i. h c (or_left (reads (touches_in w) c) (writes (touches_in w) c)
    (ap (λ xs. reads xs c) (touches_are w r e) ∙ i)))
    (λ c i. h c (or_right (reads (touches_in w) c) (writes (touches_in w) c)
    (ap (λ xs. writes xs c) (touches_are w r e) ∙ i))))
  where
    go : {A : Type 0} (b : Bool) → (b ≡ false → A) → (b ≡ true → A) → A
    go true f g = g refl
    go false f g = f refl

-- what a run of a kernel stands on
pub record IsSafe (fill : Fill) (w : Work) (t : State) : Type 0 where
  pub bounded : IsBounded t
  pub filled : (c : Cell) → fill c < 2 ^ 64
  pub apart : is_target w.kind ≡ true → Independent (turns_in_work w)
  pub mapped : is_target w.kind ≡ true → (c : Cell) → (reads (touches_in w) c || writes (touches_in w) c) ≡ true →
      list_any (λ m. is_in c m.section) w.maps ≡ true

-- after the entries the cells of the device are numbers below 2^64
pub entered_bounded : (fill : Fill) (maps : List MapItem) (m n : Memories) → ((c : Cell) → fill c < 2 ^ 64) →
    AreSized maps → BoundedMemories m → in_turn (enter fill) maps m ≡ Some n → BoundedMemories n
entered_bounded fill maps m n small are h e =
    there_at BoundedMemories (in_turn (enter fill) maps m) n
    (in_turn_keeps BoundedMemories (enter fill) maps m are (λ item n size h. enter_bounded fill item n small h) h) e

-- where a kernel ends
pub record KernelDone (lengths : List ℕ) (fill : Fill) (order : List ℕ) (r : Region) (loops : List ℕ)
    (scalars : Scalars) (k : Run → Left) (m n : Memories) : Type 0 where
  pub run : Run
  pub reaches : Reaches lengths fill (kernel_left order (Some r) loops (begins scalars) k) m (k run) n

pub kernel_reaches : (lengths : List ℕ) (fill : Fill) (m : Memories) (order : List ℕ) (w : Work) (r : Region)
    (scalars : Scalars) (t : Run) (k : Run → Left) → w.region ≡ Some r → AllSmall w.loops → BoundedScalars scalars →
    BoundedView m.device.cells → Independent (turns_in_work w) → Every (Has m.device.cells) (touches_of r w.loops) →
    run_region r w.loops m.device.cells scalars [] ≡ Some t →
    KernelDone lengths fill order r w.loops scalars k m (stored_on_device m t.stores)
kernel_reaches lengths fill m order w r scalars t k has small bounded view apart there h = go r.depth refl
  where
    go : (d : ℕ) → r.depth ≡ d →
        KernelDone lengths fill order r w.loops scalars k m (stored_on_device m t.stores)
    go zero e = record {
      run = bare t;
      reaches = rw (e, kernel_left) (in_order_reaches lengths fill m r w.loops scalars t k h);
    }
    go (suc d) e = record {
      run = begins scalars;
      reaches =
          rw (e, kernel_left)
          (unordered_reaches lengths fill m scalars bounded order (suc d) r.body.items w.loops t k view small
          (subst (λ n. Independent (turns_at n r.body.items w.loops)) e
          (subst Independent (turns_are w r has) apart)) there h);
    }
