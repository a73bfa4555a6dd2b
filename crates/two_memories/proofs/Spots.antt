-- The accesses of an item by the sides of its device, and at which locations they are.
use Rattle.std.proofs.Common.{◌≡◌, ◌⊎◌, ℕ, Bool, true, false, sym, ◌∙◌, ap, ap₂, ◌||◌, inl, inr}
use Rattle.std.specs.List.{list_any}
use Rattle.std.proofs.lemmas.Bool.{false≢true, or_cases, or_left, or_right}
use Rattle.base.specs.declared.item.Cell.{Cell}
use Rattle.base.specs.declared.item.Loc.{Loc}
use Rattle.base.specs.Items.{Plan}
use Rattle.base.specs.Actions.{Side, Stage, side_of, on_side, action_reads, action_writes}
use Rattle.base.specs.Accepted.{on_stage}
use Rattle.base.proofs.Devices.{side_there}
use Rattle.machine.specs.Board.{touches}
use Rattle.two_memories.specs.Two.{Spot, device_of, items_of}
use Rattle.two_memories.proofs.PlanItems.{Which, which}
use Rattle.two_memories.proofs.PlanItems.Which.{item, past}
use Rattle.two_memories.proofs.LikeMemories.{touched}
use Rattle.two_memories.proofs.AdjustedCounts.{access_of, the_stage, stage_at, no_stage_at, on_stage_at, on_stage_none}
use Rattle.two_memories.proofs.OwnDevice.{device_at, loc_of, its_side, has_side}

-- the location of item i on a side
abbrev pub spot_on : Plan → ℕ → Side → Cell → Spot
spot_on plan i side c = record { loc = loc_of (device_of plan i) side; cell = c }

-- what holds on a side holds at its location
side_at : (plan : Plan) (i : ℕ) (side : Side) (f : Stage → Side → Bool) →
    on_stage plan i false (λ s. on_side (side_of s.work.device (loc_of (device_of plan i) side)) (f s))
    ≡ on_stage plan i false (λ s. f s side)
side_at plan i side f = go (which plan i)
  where
    go :
        Which plan i →
        on_stage plan i false (λ s. on_side (side_of s.work.device (loc_of (device_of plan i) side)) (f s))
        ≡ on_stage plan i false (λ s. f s side)
    go (past e _) =
        on_stage_none plan i (no_stage_at plan i e) false
        (λ s. on_side (side_of s.work.device (loc_of (device_of plan i) side)) (f s))
        ∙ sym (on_stage_none plan i (no_stage_at plan i e) false (λ s. f s side))
    go (item w e _) =
        on_stage_at plan i (the_stage plan i w) (stage_at plan i w e) false
        (λ s. on_side (side_of s.work.device (loc_of (device_of plan i) side)) (f s))
        ∙ (ap (λ d. on_side (side_of w.device (loc_of d side)) (f (the_stage plan i w))) (device_at plan i w e)
        ∙ (ap (λ o. on_side o (f (the_stage plan i w))) (its_side w.device side)
        ∙ sym (on_stage_at plan i (the_stage plan i w) (stage_at plan i w e) false (λ s. f s side))))

pub reads_at : (plan : Plan) (i : ℕ) (side : Side) (c : Cell) →
    (items_of plan).reads i (spot_on plan i side c) ≡ (access_of plan i).reads side c
reads_at plan i side c = side_at plan i side (λ s side. list_any (λ a. action_reads a side c) s.actions)

pub writes_at : (plan : Plan) (i : ℕ) (side : Side) (c : Cell) →
    (items_of plan).writes i (spot_on plan i side c) ≡ (access_of plan i).writes side c
writes_at plan i side c = side_at plan i side (λ s side. list_any (λ a. action_writes a side c) s.actions)

pub touches_at : (plan : Plan) (i : ℕ) (side : Side) (c : Cell) →
    touches (items_of plan) i (spot_on plan i side c) ≡ touched (access_of plan i) side c
touches_at plan i side c = ap₂ (λ a b. a || b) (reads_at plan i side c) (writes_at plan i side c)

pub touched_at : (plan : Plan) (i : ℕ) (side : Side) (c : Cell) →
    touched (access_of plan i) side c ≡ true →
    touches (items_of plan) i (spot_on plan i side c) ≡ true
touched_at plan i side c h = touches_at plan i side c ∙ h

-- where an item has an access
pub record OnSide (plan : Plan) (i : ℕ) (l : Spot) : Type 0 where
  pub side : Side
  pub loc : l.loc ≡ loc_of (device_of plan i) side
  pub touched : touched (access_of plan i) side l.cell ≡ true

-- the side on which a test of an item holds
there : (plan : Plan) (i : ℕ) (loc : Loc) (f : Stage → Side → Bool) →
    on_stage plan i false (λ s. on_side (side_of s.work.device loc) (f s)) ≡ true →
    (side : Side) × (loc ≡ loc_of (device_of plan i) side) × (on_stage plan i false (λ s. f s side) ≡ true)
there plan i loc f h = go (which plan i)
  where
    go : Which plan i →
        (side : Side) × (loc ≡ loc_of (device_of plan i) side) × (on_stage plan i false (λ s. f s side) ≡ true)
    go (past e _) =
        absurd (false≢true (sym (on_stage_none plan i (no_stage_at plan i e) false
        (λ s. on_side (side_of s.work.device loc) (f s))) ∙ h))
    go (item w e _) =
        let r =
        side_there (side_of w.device loc) (f (the_stage plan i w))
        (sym (on_stage_at plan i (the_stage plan i w) (stage_at plan i w e) false
        (λ s. on_side (side_of s.work.device loc) (f s))) ∙ h) in (
          r.0,
          has_side w.device loc r.0 r.1 ∙ ap (λ d. loc_of d r.0) (sym (device_at plan i w e)),
          on_stage_at plan i (the_stage plan i w) (stage_at plan i w e) false (λ s. f s r.0) ∙ r.2,
        )

pub on_its_side : (plan : Plan) (i : ℕ) (l : Spot) → touches (items_of plan) i l ≡ true → OnSide plan i l
on_its_side plan i l h = go (or_cases _ _ h)
  where
    go : ((items_of plan).reads i l ≡ true) ⊎ ((items_of plan).writes i l ≡ true) → OnSide plan i l
    go (inl r) =
        let x = there plan i l.loc (λ s side. list_any (λ a. action_reads a side l.cell) s.actions) r in
        record { side = x.0; loc = x.1; touched = or_left _ _ x.2 }
    go (inr w) =
        let x = there plan i l.loc (λ s side. list_any (λ a. action_writes a side l.cell) s.actions) w in
        record { side = x.0; loc = x.1; touched = or_right _ _ x.2 }
