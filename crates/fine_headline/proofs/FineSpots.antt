-- The two memories on which an item works, action by action, and what the locations of its device hold.
use Rattle.std.proofs.Common.{◌≡◌, ◌⊎◌, ℕ, ◌==◌, true, false, List, length, Some, refl, sym, ◌∙◌, ap, inl, inr, subst}
use Rattle.std.specs.Prelude.{option_map, if◌then◌else◌}
use mathlib.Core.Path.{fun_ext}
use Rattle.std.proofs.lemmas.Bool.{cases_eq, cond-true, cond-false, eq-eqb, ne_eqb}
use Rattle.base.specs.declared.item.Cell.{Cell}
use Rattle.base.specs.declared.item.Loc.{Loc}
use Rattle.base.specs.declared.item.Loc.TheVariants as at
use Rattle.base.specs.declared.item.MapItem.{MapItem}
use Rattle.base.specs.declared.item.Section.{Section}
use Rattle.base.specs.Memory.{changed}
use Rattle.base.specs.Items.{Plan}
use Rattle.base.specs.Map.{Device, Memories, AllMemories, memories_at, with_memories_at}
use Rattle.base.specs.Actions.{Side, Host, Dev, Tab}
use Rattle.base.specs.Blocks.{holder}
use Rattle.base.proofs.Devices.{changed_other, memories_back}
use Rattle.fine_machine.specs.Machine.{State}
use Rattle.machine.specs.Board.{touches}
use Rattle.two_memories.specs.Two.{Spot, Holding, Number, Entry, device_of, items_of, less, number_inside}
use Rattle.two_memories.proofs.AdjustedCounts.{access_of, sum_same}
use Rattle.two_memories.proofs.LikeMemories.{touched}
use Rattle.two_memories.proofs.Spots.{OnSide, on_its_side, spot_on, writes_at}
use Rattle.fine_headline.specs.FineState.{value_at, entered_on, resting_in}

abbrev pub own_memories : Plan → ℕ → State → Memories
own_memories plan i s = memories_at (device_of plan i) s.memories

-- All memories, as two of them are put back.

changed_again : {A : Type 0} (d : ℕ) (x y : A) (f : ℕ → A) (e : ℕ) → changed d y (changed d x f) e ≡ changed d y f e
changed_again d x y f e = go (cases_eq e d)
  where
    go : (e ≡ d) ⊎ (e ≡ d → ⊥) → changed d y (changed d x f) e ≡ changed d y f e
    go (inl q) = cond-true (e == d) y (changed d x f e) (eq-eqb e d q) ∙ sym (cond-true (e == d) y (f e) (eq-eqb e d q))
    go (inr n) =
        changed_other d e y (changed d x f) (ne_eqb e d n)
        ∙ (changed_other d e x f (ne_eqb e d n) ∙ sym (changed_other d e y f (ne_eqb e d n)))

changed_itself : {A : Type 0} (d : ℕ) (f : ℕ → A) (e : ℕ) → changed d (f d) f e ≡ f e
changed_itself d f e = go (cases_eq e d)
  where
    go : (e ≡ d) ⊎ (e ≡ d → ⊥) → changed d (f d) f e ≡ f e
    go (inl q) = cond-true (e == d) (f d) (f e) (eq-eqb e d q) ∙ ap f (sym q)
    go (inr n) = changed_other d e (f d) f (ne_eqb e d n)

pub put_again : (d : ℕ) (m n : Memories) (all : AllMemories) →
    with_memories_at d n (with_memories_at d m all) ≡ with_memories_at d n all
put_again d m n all =
    ap (λ (f : ℕ → Device). record { host = n.host; devices = f })
    (fun_ext (changed_again d m.device n.device all.devices))

pub put_itself : (d : ℕ) (all : AllMemories) → with_memories_at d (memories_at d all) all ≡ all
put_itself d all =
    ap (λ (f : ℕ → Device). record { host = all.host; devices = f }) (fun_ext (changed_itself d all.devices))

-- What the locations of an item's device hold.

abbrev pub value_of : Plan → (ℕ → List MapItem) → ℕ → Memories → Side → Cell → Holding
value_of plan m i n Host c = Number (Some (n.host c))
value_of plan m i n Dev c = Number (n.device.cells c)
value_of plan m i n Tab c = Entry (option_map (less (resting_in plan m (device_of plan i))) (holder n.device.blocks c))

pub value_is : (plan : Plan) (i : ℕ) (s : State) (m : ℕ → List MapItem) (side : Side) (c : Cell) →
    value_at plan s m (spot_on plan i side c) ≡ value_of plan m i (own_memories plan i s) side c
value_is plan i s m Host c = refl
value_is plan i s m Dev c = refl
value_is plan i s m Tab c = refl

-- where the item was given these memories
pub value_put : (plan : Plan) (i : ℕ) (s : State) (n : Memories) (all : AllMemories) (m : ℕ → List MapItem) (side : Side)
    (c : Cell) → s.memories ≡ with_memories_at (device_of plan i) n all →
    value_at plan s m (spot_on plan i side c) ≡ value_of plan m i n side c
value_put plan i s n all m side c e =
    value_is plan i s m side c
    ∙ ap (λ x. value_of plan m i x side c)
    (ap (memories_at (device_of plan i)) e ∙ memories_back (device_of plan i) n all)

-- what holds of both states at the sides at which an item has an access holds at each location at which it has one
pub touched_values : (plan : Plan) (i : ℕ) (x y : State) (m n : ℕ → List MapItem) (l : Spot) →
    ((side : Side) → touched (access_of plan i) side l.cell ≡ true →
    value_at plan x m (spot_on plan i side l.cell) ≡ value_at plan y n (spot_on plan i side l.cell)) →
    touches (items_of plan) i l ≡ true →
    value_at plan x m l ≡ value_at plan y n l
touched_values plan i x y m n l h t =
    let o : OnSide plan i l = on_its_side plan i l t in
    subst
    (λ loc. value_at plan x m (record { loc = loc; cell = l.cell }) ≡ value_at plan y n
    (record { loc = loc; cell = l.cell }))
    (sym o.loc) (h o.side o.touched)

-- Other devices.

abbrev pub ElsewhereIn : ℕ → AllMemories → AllMemories → Type 0
ElsewhereIn d all now = (e : ℕ) → (e ≡ d → ⊥) → now.devices e ≡ all.devices e

pub else_put : (d : ℕ) (n : Memories) (all : AllMemories) → ElsewhereIn d all (with_memories_at d n all)
else_put d n all e ne = changed_other d e n.device all.devices (ne_eqb e d ne)

-- what the item enters rests on its own device
resting_else : (plan : Plan) (i e : ℕ) (m n : ℕ → List MapItem) →
    (e ≡ device_of plan i → ⊥) →
    ((j : ℕ) → (j ≡ i → ⊥) → n j ≡ m j) →
    (section : Section) → resting_in plan n e section ≡ resting_in plan m e section
resting_else plan i e m n ne h section =
    sum_same (length plan.items) (entered_on plan n e section) (entered_on plan m e section)
    (λ k _. each k (cases_eq k i))
  where
    off : (k : ℕ) → k ≡ i → (device_of plan k == e) ≡ false
    off k q = ne_eqb (device_of plan k) e (λ f. ne (sym f ∙ ap (device_of plan) q))

    each : (k : ℕ) → (k ≡ i) ⊎ (k ≡ i → ⊥) → entered_on plan n e section k ≡ entered_on plan m e section k
    each k (inr d) = ap (λ ms. if device_of plan k == e then number_inside ms section else 0) (h k d)
    each k (inl q) =
        cond-false (device_of plan k == e) (number_inside (n k) section) 0 (off k q)
        ∙ sym (cond-false (device_of plan k == e) (number_inside (m k) section) 0 (off k q))

-- what is not written holds what it held, where that is so on each side of the item's device
pub unwritten_values : (plan : Plan) (i : ℕ) (s x : State) (m n : ℕ → List MapItem) (l : Spot) →
    ElsewhereIn (device_of plan i) s.memories x.memories →
    ((j : ℕ) → (j ≡ i → ⊥) → n j ≡ m j) →
    ((side : Side) → (access_of plan i).writes side l.cell ≡ false →
    value_at plan x n (spot_on plan i side l.cell) ≡ value_at plan s m (spot_on plan i side l.cell)) →
    (items_of plan).writes i l ≡ false →
    value_at plan x n l ≡ value_at plan s m l
unwritten_values plan i s x m n l there same own w = go l.loc w
  where
    d : ℕ
    d = device_of plan i

    on : (side : Side) → (items_of plan).writes i (spot_on plan i side l.cell) ≡ false →
        value_at plan x n (spot_on plan i side l.cell) ≡ value_at plan s m (spot_on plan i side l.cell)
    on side w = own side (sym (writes_at plan i side l.cell) ∙ w)

    IsStill : Loc → Type 0
    IsStill loc =
        (items_of plan).writes i (record { loc = loc; cell = l.cell }) ≡ false →
        value_at plan x n (record { loc = loc; cell = l.cell }) ≡ value_at plan s m (record { loc = loc; cell = l.cell })

    go : (loc : Loc) →
        (items_of plan).writes i (record { loc = loc; cell = l.cell }) ≡ false →
        value_at plan x n (record { loc = loc; cell = l.cell }) ≡ value_at plan s m (record { loc = loc; cell = l.cell })
    go at.Host w = on Host w
    go (at.Dev e) w = by (cases_eq e d)
      where
        by : (e ≡ d) ⊎ (e ≡ d → ⊥) →
            value_at plan x n (record { loc = at.Dev e; cell = l.cell })
            ≡ value_at plan s m (record { loc = at.Dev e; cell = l.cell })
        by (inl q) = subst (λ y. IsStill (at.Dev y)) (sym q) (λ w. on Dev w) w
        by (inr ne) = ap (λ (y : Device). Number (y.cells l.cell)) (there e ne)
    go (at.Tab e) w = by (cases_eq e d)
      where
        by : (e ≡ d) ⊎ (e ≡ d → ⊥) →
            value_at plan x n (record { loc = at.Tab e; cell = l.cell })
            ≡ value_at plan s m (record { loc = at.Tab e; cell = l.cell })
        by (inl q) = subst (λ y. IsStill (at.Tab y)) (sym q) (λ w. on Tab w) w
        by (inr ne) =
            ap (λ (y : Device). Entry (option_map (less (resting_in plan n e)) (holder y.blocks l.cell))) (there e ne)
            ∙ ap (λ rs. Entry (option_map (less rs) (holder (s.memories.devices e).blocks l.cell)))
            (fun_ext (resting_else plan i e m n ne same))
