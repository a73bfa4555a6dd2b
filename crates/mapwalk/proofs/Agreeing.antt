-- What is current on the cells of arrays decides what is refused.
use Rattle.std.proofs.Common.{◌≡◌, ℕ, Bool, true, false, List, [], ◌∷◌, refl, sym, ap, ◌∙◌}
use Rattle.std.specs.Prelude.{not, ◌&&◌, ◌||◌, ◌==◌, if◌then◌else◌}
use Rattle.base.specs.declared.item.Cell.{Cell}
use Rattle.base.specs.declared.item.MapItem.{MapItem}
use Rattle.base.specs.declared.fault.RefusalCode.{RefusalCode}
use Rattle.base.specs.declared.fault.RefusalCode.TheVariants.{OverlapsInPart, ExitOfAbsent, UpdateOfAbsent, NotPresent, Unmapped, HostNotCurrent, DeviceNotCurrent, TurnsMeet, Conflict}
use Rattle.base.specs.Memory.{is_cell, is_in}
use Rattle.base.specs.Items.{Work}
use Rattle.base.specs.Map.{Block}
use Rattle.base.specs.Footprint.{exposes, surely_writes, writes}
use Rattle.base.specs.Actions.{Action, Counts, Creates, CopiesIn, CopiesOut, HostRegion, Kernel, Removes, Stage, touches_in}
use Rattle.base.specs.Current.{AllCurrent, Current, after_action, after_actions, after_stage, current_at, other_side}
use Rattle.base.specs.Accepted.{cause, is_host, is_target, range_faults}
use Rattle.mapwalk.specs.declared.rows.Acts.{Acts}
use Rattle.mapwalk.specs.Sides.{act_if, after_act, after_acts}
use Rattle.mapwalk.specs.Kinds.{before_region}
use Rattle.mapwalk.specs.Steps.{everywhere, stage_of}
use Rattle.mapwalk.proofs.Touched.{exposed_inside}
use Rattle.mapwalk.proofs.WorkParts.{at_region, parts}

-- two sides have the same cells of arrays
abbrev pub AgreeOn : List ℕ → (Cell → Bool) → (Cell → Bool) → Type 0
AgreeOn lengths s t = (c : Cell) → is_cell lengths c ≡ true → s c ≡ t c

-- the same cells of arrays are current
pub record Agree (lengths : List ℕ) (k j : Current) : Type 0 where
  pub host : AgreeOn lengths k.host j.host
  pub device : AgreeOn lengths k.device j.device

-- and on every device
pub record AgreeAll (lengths : List ℕ) (k j : AllCurrent) : Type 0 where
  pub host : AgreeOn lengths k.host j.host
  pub devices : (d : ℕ) → AgreeOn lengths (k.devices d) (j.devices d)

pick : (t a b x y : Bool) → a ≡ x → b ≡ y → elim t as (λ z. Bool) [ true ↦ a | false ↦ b ] ≡ elim t as (λ z. Bool) [ true ↦ x | false ↦ y ]
pick true a b x y e f = e
pick false a b x y e f = f

pub action_agree : (lengths : List ℕ) (a : Action) (k j : Current) → Agree lengths k j → Agree lengths
    (after_action a k) (after_action a j)
action_agree lengths (Counts block resting) k j h = h
action_agree lengths (Creates s) k j h =
    record { host = h.host; device = λ c e. pick (is_in c s) false (k.device c) false (j.device c) refl (h.device c e) }
action_agree lengths (Removes s) k j h =
    record { host = h.host; device = λ c e. pick (is_in c s) false (k.device c) false (j.device c) refl (h.device c e) }
action_agree lengths (CopiesIn s) k j h =
    record {
      host = h.host;
      device = λ c e. pick (is_in c s) (k.host c) (k.device c) (j.host c) (j.device c) (h.host c e) (h.device c e);
    }
action_agree lengths (CopiesOut s) k j h =
    record {
      host = λ c e. pick (is_in c s) (k.device c) (k.host c) (j.device c) (j.host c) (h.device c e) (h.host c e);
      device = h.device;
    }
action_agree lengths (HostRegion t) k j h =
    record {
      host = λ c e. ap (λ b. surely_writes t c || b) (h.host c e);
      device = λ c e. ap (λ b. not (writes t c) && b) (h.device c e);
    }
action_agree lengths (Kernel t) k j h =
    record {
      host = λ c e. ap (λ b. not (writes t c) && b) (h.host c e);
      device = λ c e. ap (λ b. surely_writes t c || b) (h.device c e);
    }

pub actions_agree : (lengths : List ℕ) (xs : List Action) (k j : Current) → Agree lengths k j → Agree lengths
    (after_actions xs k) (after_actions xs j)
actions_agree lengths [] k j h = h
actions_agree lengths (a ∷ xs) k j h =
    actions_agree lengths xs (after_action a k) (after_action a j) (action_agree lengths a k j h)

if_agree : (lengths : List ℕ) (t : Bool) (a : Action) (k j : Current) → Agree lengths k j → Agree lengths
    (act_if t a k) (act_if t a j)
if_agree lengths true a k j h = action_agree lengths a k j h
if_agree lengths false a k j h = h

acts_agree : (lengths : List ℕ) (maps : List MapItem) (row : List Acts) (k j : Current) → Agree lengths k j → Agree lengths
    (after_acts maps row k) (after_acts maps row j)
acts_agree lengths [] row k j h = h
acts_agree lengths (m ∷ maps) [] k j h = h
acts_agree lengths (m ∷ maps) (a ∷ row) k j h =
    acts_agree lengths maps row (after_act m.section a k) (after_act m.section a j)
    (if_agree lengths a.removes (Removes a.block) _ _
    (if_agree lengths a.copies_out (CopiesOut m.section) _ _
    (if_agree lengths a.copies_in (CopiesIn m.section) _ _ (if_agree lengths a.creates (Creates a.block) k j h))))

stale_agree : (x y : Bool) (t : Bool) → (t ≡ true → x ≡ y) → (t && not x) ≡ (t && not y)
stale_agree x y true h = ap not (h refl)
stale_agree x y false h = refl

-- what is current on another device than an item's decides nothing
pub cause_here : (s : Stage) (k : AllCurrent) (code : RefusalCode) (c : Cell) →
    cause code s k c ≡ cause code s (everywhere (current_at s.work.device k)) c
cause_here s k OverlapsInPart c = refl
cause_here s k ExitOfAbsent c = refl
cause_here s k UpdateOfAbsent c = refl
cause_here s k NotPresent c = refl
cause_here s k Unmapped c = refl
cause_here s k HostNotCurrent c = refl
cause_here s k DeviceNotCurrent c = refl
cause_here s k TurnsMeet c = refl
cause_here s k Conflict c = refl

-- an item with no fault of range has the same causes
cause_agree : (lengths : List ℕ) (w : Work) (blocks : List Block) (k j : Current) → range_faults lengths w ≡ [] →
    Agree lengths k j → (code : RefusalCode) (c : Cell) →
    cause code (stage_of w blocks) (everywhere k) c ≡ cause code (stage_of w blocks) (everywhere j) c
cause_agree lengths w blocks k j none h OverlapsInPart c = refl
cause_agree lengths w blocks k j none h ExitOfAbsent c = refl
cause_agree lengths w blocks k j none h UpdateOfAbsent c = refl
cause_agree lengths w blocks k j none h NotPresent c = refl
cause_agree lengths w blocks k j none h Unmapped c = refl
cause_agree lengths w blocks k j none h HostNotCurrent c =
    let same = acts_agree lengths w.maps (before_region w.kind w.maps blocks) k j h in
    (parts w blocks).host_stale k c
    ∙ ap (λ b. is_host w.kind && b)
    (stale_agree ((at_region w blocks k).host c) ((at_region w blocks j).host c) (exposes (touches_in w) c)
    (λ e. same.host c (exposed_inside lengths w c none e)))
    ∙ sym ((parts w blocks).host_stale j c)
cause_agree lengths w blocks k j none h DeviceNotCurrent c =
    let same = acts_agree lengths w.maps (before_region w.kind w.maps blocks) k j h in
    (parts w blocks).device_stale k c
    ∙ ap (λ b. is_target w.kind && b)
    (stale_agree ((at_region w blocks k).device c) ((at_region w blocks j).device c) (exposes (touches_in w) c)
    (λ e. same.device c (exposed_inside lengths w c none e)))
    ∙ sym ((parts w blocks).device_stale j c)
cause_agree lengths w blocks k j none h TurnsMeet c = refl
cause_agree lengths w blocks k j none h Conflict c = refl

pub all_cause_agree : (lengths : List ℕ) (w : Work) (blocks : List Block) (k j : AllCurrent) → range_faults lengths w ≡ [] →
    AgreeAll lengths k j → (code : RefusalCode) (c : Cell) → cause code (stage_of w blocks) k c ≡ cause code (stage_of w blocks) j c
all_cause_agree lengths w blocks k j none h code c =
    cause_here (stage_of w blocks) k code c
    ∙ cause_agree lengths w blocks (current_at w.device k) (current_at w.device j) none
    (record { host = h.host; device = h.devices w.device }) code c
    ∙ sym (cause_here (stage_of w blocks) j code c)

-- what is current after an item
pub stage_agree : (lengths : List ℕ) (s : Stage) (k j : AllCurrent) → AgreeAll lengths k j →
    AgreeAll lengths (after_stage s k) (after_stage s j)
stage_agree lengths s k j h =
    record { host = own.host; devices = λ e. go e (e == d) }
  where
    d : ℕ
    d = s.work.device

    own : Agree lengths (after_actions s.actions (current_at s.work.device k)) (after_actions s.actions (current_at s.work.device j))
    own = actions_agree lengths s.actions (current_at s.work.device k) (current_at s.work.device j)
        (record { host = h.host; device = h.devices s.work.device })

    go : (e : ℕ) (b : Bool) → AgreeOn lengths
        (if b then (after_actions s.actions (current_at s.work.device k)).device else other_side (touches_in s.work) (k.devices e))
        (if b then (after_actions s.actions (current_at s.work.device j)).device else other_side (touches_in s.work) (j.devices e))
    go e true = own.device
    go e false = λ c x. ap (λ b. not (writes (touches_in s.work) c) && b) (h.devices e c x)
