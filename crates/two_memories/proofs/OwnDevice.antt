-- The device on which an item works: the two memories there, and the locations of that device.
use Rattle.std.proofs.Common.{◌≡◌, ◌⊎◌, ℕ, true, false, ◌==◌, Option, Some, None, refl, sym, ◌∙◌, ap, inl, inr, subst}
use Rattle.std.specs.Prelude.{slice_get}
use Rattle.std.proofs.lemmas.Bool.{cases_Bool, cond-true, cond-false, eqb-true, ne_eqb}
use Rattle.base.specs.declared.item.Loc.{Loc}
use Rattle.base.specs.declared.item.Loc.TheVariants as at
use Rattle.base.specs.Items.{Work, Plan}
use Rattle.base.specs.Map.{Memories, memories_at, with_memories_at}
use Rattle.base.specs.Machine.{State, with_memories}
use Rattle.base.specs.Actions.{Side, Host, Dev, Tab, side_of}
use Rattle.base.proofs.Devices.{changed_other, memories_back, side_dev, side_tab}
use Rattle.two_memories.specs.Two.{device_of}
use Rattle.two_memories.proofs.PlanItems.{at_item}

-- Memories.

-- the memories on which item i works
abbrev pub own_memories : Plan → ℕ → State → Memories
own_memories plan i s = memories_at (device_of plan i) s.memories

pub device_at : (plan : Plan) (i : ℕ) (w : Work) → slice_get plan.items i ≡ Some w → device_of plan i ≡ w.device
device_at plan i w e = at_item plan i w e 0 (λ w. w.device)

pub own_is : (plan : Plan) (i : ℕ) (w : Work) (s : State) →
    slice_get plan.items i ≡ Some w →
    own_memories plan i s ≡ memories_at w.device s.memories
own_is plan i w s e = ap (λ d. memories_at d s.memories) (device_at plan i w e)

-- they are what the item's device is given
pub own_back : (plan : Plan) (i : ℕ) (w : Work) (m : Memories) (s : State) →
    slice_get plan.items i ≡ Some w →
    own_memories plan i (with_memories w.device m s) ≡ m
own_back plan i w m s e =
    ap (λ d. memories_at d (with_memories_at w.device m s.memories)) (device_at plan i w e)
    ∙ memories_back w.device m s.memories

-- every other device has what it had
abbrev pub Elsewhere : ℕ → State → State → Type 0
Elsewhere d s t = (e : ℕ) → (e ≡ d → ⊥) → t.memories.devices e ≡ s.memories.devices e

pub else_with : (d : ℕ) (m : Memories) (s : State) → Elsewhere d s (with_memories d m s)
else_with d m s e n = changed_other d e m.device s.memories.devices (ne_eqb e d n)

-- Locations.

-- the location on a side of device d
abbrev pub loc_of : ℕ → Side → Loc
loc_of d Host = at.Host
loc_of d Dev = at.Dev d
loc_of d Tab = at.Tab d

pub its_side : (d : ℕ) (side : Side) → side_of d (loc_of d side) ≡ Some side
its_side d Host = refl
its_side d Dev = side_dev d
its_side d Tab = side_tab d

-- a location that is on a side of device d is that one
pub has_side : (d : ℕ) (loc : Loc) (side : Side) → side_of d loc ≡ Some side → loc ≡ loc_of d side
has_side d at.Host side h = let is : Host ≡ side = cc h in ap (loc_of d) is
has_side d (at.Dev e) side h = go (cases_Bool (d == e))
  where
    go : ((d == e) ≡ true) ⊎ ((d == e) ≡ false) → at.Dev e ≡ loc_of d side
    go (inl t) =
        let f : ◌≡◌ {A = Option Side} (Some Dev) (Some side) = sym (cond-true (d == e) (Some Dev) None t) ∙ h in
        let is : Dev ≡ side = cc f in
        subst (λ x. at.Dev e ≡ loc_of d x) is (ap (λ x. at.Dev x) (sym (eqb-true d e t)))
    go (inr n) = absurd (cc (sym (cond-false (d == e) (Some Dev) None n) ∙ h))
has_side d (at.Tab e) side h = go (cases_Bool (d == e))
  where
    go : ((d == e) ≡ true) ⊎ ((d == e) ≡ false) → at.Tab e ≡ loc_of d side
    go (inl t) =
        let f : ◌≡◌ {A = Option Side} (Some Tab) (Some side) = sym (cond-true (d == e) (Some Tab) None t) ∙ h in
        let is : Tab ≡ side = cc f in
        subst (λ x. at.Tab e ≡ loc_of d x) is (ap (λ x. at.Tab x) (sym (eqb-true d e t)))
    go (inr n) = absurd (cc (sym (cond-false (d == e) (Some Tab) None n) ∙ h))
