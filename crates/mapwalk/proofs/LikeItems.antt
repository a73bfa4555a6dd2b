-- Items that do the same from the same state.
use Rattle.std.proofs.Common.{◌≡◌, Bool, true, false, List, refl, sym, ap, ◌∙◌}
use Rattle.std.specs.Prelude.{not, ◌&&◌, ◌||◌}
use Rattle.std.specs.List.{list_any}
use Rattle.std.proofs.lemmas.Bool.{and_left, and_right, true≢false}
use mathlib.Core.Path.{fun_ext}
use Rattle.base.specs.declared.item.Cell.{Cell}
use Rattle.base.specs.declared.item.ItemKind.{ItemKind}
use Rattle.base.specs.declared.item.ItemKind.TheVariants as kind
use Rattle.base.specs.declared.fault.RefusalCode.{RefusalCode}
use Rattle.base.specs.declared.fault.RefusalCode.TheVariants.{OverlapsInPart, ExitOfAbsent, UpdateOfAbsent, NotPresent, Unmapped, HostNotCurrent, DeviceNotCurrent, TurnsMeet, Conflict}
use Rattle.base.specs.Memory.{changed, is_in}
use Rattle.base.specs.Items.{Work}
use Rattle.base.specs.Map.{Block}
use Rattle.base.specs.Actions.{acts_of, touches_in}
use Rattle.base.specs.Current.{AllCurrent, Current, after_actions, after_stage, current_at, other_side, own_side}
use Rattle.base.specs.Accepted.{cause, is_host, is_target}
use Rattle.base.specs.Turns.{turns_in_work, turns_meet}
use Rattle.mapwalk.specs.Acts.{acts_row}
use Rattle.mapwalk.specs.Causes.{met_causes, region_causes}
use Rattle.mapwalk.specs.Heads.{AbstractState}
use Rattle.mapwalk.specs.Kinds.{after_maps, after_region, before_region, joined_by, met_by}
use Rattle.mapwalk.specs.Regions.{region_actions}
use Rattle.mapwalk.specs.Sides.{after_acts}
use Rattle.mapwalk.specs.Steps.{everywhere, stage_of}
use Rattle.mapwalk.proofs.Agreeing.{cause_here}
use Rattle.mapwalk.proofs.LikeRegions.{SameTouches, effect, effect_by}
use Rattle.mapwalk.proofs.WorkParts.{at_region, cause_split, parts}

abbrev is_meeting : RefusalCode → Bool
is_meeting OverlapsInPart = false
is_meeting ExitOfAbsent = false
is_meeting UpdateOfAbsent = false
is_meeting NotPresent = false
is_meeting Unmapped = false
is_meeting HostNotCurrent = false
is_meeting DeviceNotCurrent = false
is_meeting TurnsMeet = true
is_meeting Conflict = false

-- the walk cannot tell two items apart
pub record WorkAlike (v w : Work) : Type 0 where
  pub kind : w.kind ≡ v.kind
  pub device : w.device ≡ v.device
  pub maps : w.maps ≡ v.maps
  pub touches : SameTouches v w

module _ (v w : Work) (h : WorkAlike v w) where
  own_same : (side : Cell → Bool) → own_side (touches_in w) side ≡ own_side (touches_in v) side
  own_same side = fun_ext (λ (c : Cell). ap (λ b. b || side c) (h.touches.sure c))

  other_same : (side : Cell → Bool) → other_side (touches_in w) side ≡ other_side (touches_in v) side
  other_same side = fun_ext (λ (c : Cell). ap (λ b. not b && side c) (h.touches.write c))

  by_same : (x : ItemKind) (k : Current) → effect_by x w k ≡ effect_by x v k
  by_same kind.Host k = λ i. record { host = own_same k.host i; device = other_same k.device i }
  by_same kind.Target k = λ i. record { host = other_same k.host i; device = own_same k.device i }
  by_same kind.Begin k = refl
  by_same kind.End k = refl
  by_same kind.Enter k = refl
  by_same kind.Exit k = refl
  by_same kind.Update k = refl
  by_same kind.Wait k = refl

  effect_same : (k : Current) → after_actions (region_actions w) k ≡ after_actions (region_actions v) k
  effect_same k = effect w k v.kind h.kind ∙ by_same v.kind k ∙ sym (effect v k v.kind refl)

  region_same : (blocks : List Block) (k : Current) → at_region w blocks k ≡ at_region v blocks k
  region_same blocks k = λ i. after_acts (h.maps i) (before_region (h.kind i) (h.maps i) blocks) k

  actions_same : (blocks : List Block) (k : Current) →
      after_actions (acts_of w blocks).actions k ≡ after_actions (acts_of v blocks).actions k
  actions_same blocks k =
      (parts w blocks).current k
      ∙ (λ i. after_acts (h.maps i) (after_region (h.kind i) (h.maps i) blocks)
      ((ap (after_actions (region_actions w)) (region_same blocks k) ∙ effect_same (at_region v blocks k)) i))
      ∙ sym ((parts v blocks).current k)

  blocks_same : (blocks : List Block) → (acts_of w blocks).blocks ≡ (acts_of v blocks).blocks
  blocks_same blocks =
      (parts w blocks).blocks_after
      ∙ (λ i. after_maps (h.kind i) (h.maps i) blocks)
      ∙ sym (parts v blocks).blocks_after

  pub row_same : (blocks : List Block) → acts_row w blocks ≡ acts_row v blocks
  row_same blocks =
      (parts w blocks).row
      ∙ (λ i. joined_by (h.kind i) (before_region (h.kind i) (h.maps i) blocks) (after_region (h.kind i) (h.maps i) blocks))
      ∙ sym (parts v blocks).row

  region_causes_same : (k : Current) (code : RefusalCode) (c : Cell) → is_meeting code ≡ false →
      region_causes w k code c ≡ region_causes v k code c
  region_causes_same k OverlapsInPart c e = refl
  region_causes_same k ExitOfAbsent c e = refl
  region_causes_same k UpdateOfAbsent c e = refl
  region_causes_same k NotPresent c e = refl
  region_causes_same k Unmapped c e =
      λ i. is_target (h.kind i)
      && ((h.touches.read c i || h.touches.write c i) && not (list_any (λ m. is_in c m.section) (h.maps i)))
  region_causes_same k HostNotCurrent c e = λ i. is_host (h.kind i) && (h.touches.exposed c i && not (k.host c))
  region_causes_same k DeviceNotCurrent c e = λ i. is_target (h.kind i) && (h.touches.exposed c i && not (k.device c))
  region_causes_same k TurnsMeet c e = absurd (true≢false e)
  region_causes_same k Conflict c e = refl

  here_same : (blocks : List Block) (k : Current) (code : RefusalCode) (c : Cell) → is_meeting code ≡ false →
      cause code (stage_of w blocks) (everywhere k) c ≡ cause code (stage_of v blocks) (everywhere k) c
  here_same blocks k code c e =
      cause_split w blocks k code c
      ∙ (λ i. met_causes (h.kind i) (met_by (h.kind i) (h.maps i) blocks) code c
      || (ap (λ j. region_causes w j code c) (region_same blocks k) ∙ region_causes_same (at_region v blocks k) code c e) i)
      ∙ sym (cause_split v blocks k code c)

  cause_same : (blocks : List Block) (k : AllCurrent) (code : RefusalCode) (c : Cell) → is_meeting code ≡ false →
      cause code (stage_of w blocks) k c ≡ cause code (stage_of v blocks) k c
  cause_same blocks k code c e =
      cause_here (stage_of w blocks) k code c
      ∙ ap (λ d. cause code (stage_of w blocks) (everywhere (current_at d k)) c) h.device
      ∙ here_same blocks (current_at v.device k) code c e
      ∙ sym (cause_here (stage_of v blocks) k code c)

  -- where the turns of the first kernel meet nowhere, nor do those of the second
  no_meeting : ((c : Cell) → (is_target v.kind && turns_meet (turns_in_work v) c) ≡ false) →
      (c : Cell) → (is_target w.kind && turns_meet (turns_in_work w) c) ≡ false
  no_meeting never c = go (is_target v.kind) refl
    where
      go : (b : Bool) → is_target v.kind ≡ b → (is_target w.kind && turns_meet (turns_in_work w) c) ≡ false
      go true e =
          and_right (is_target w.kind) (turns_meet (turns_in_work w) c)
          (h.touches.apart (λ d. sym (ap (λ b. b && turns_meet (turns_in_work v) d) e) ∙ never d) c)
      go false e = and_left (is_target w.kind) (turns_meet (turns_in_work w) c) (ap is_target h.kind ∙ e)

  -- where the first item has no cause, nor has the second
  pub no_cause : (blocks : List Block) (k : AllCurrent) →
      ((code : RefusalCode) (c : Cell) → cause code (stage_of v blocks) k c ≡ false) →
      (code : RefusalCode) (c : Cell) → cause code (stage_of w blocks) k c ≡ false
  no_cause blocks k none OverlapsInPart c = cause_same blocks k OverlapsInPart c refl ∙ none OverlapsInPart c
  no_cause blocks k none ExitOfAbsent c = cause_same blocks k ExitOfAbsent c refl ∙ none ExitOfAbsent c
  no_cause blocks k none UpdateOfAbsent c = cause_same blocks k UpdateOfAbsent c refl ∙ none UpdateOfAbsent c
  no_cause blocks k none NotPresent c = cause_same blocks k NotPresent c refl ∙ none NotPresent c
  no_cause blocks k none Unmapped c = cause_same blocks k Unmapped c refl ∙ none Unmapped c
  no_cause blocks k none HostNotCurrent c = cause_same blocks k HostNotCurrent c refl ∙ none HostNotCurrent c
  no_cause blocks k none DeviceNotCurrent c = cause_same blocks k DeviceNotCurrent c refl ∙ none DeviceNotCurrent c
  no_cause blocks k none TurnsMeet c = no_meeting (none TurnsMeet) c
  no_cause blocks k none Conflict c = refl

-- the walk after an item
abbrev pub after_work : Work → AbstractState → AbstractState
after_work w s =
    record {
      tables = changed w.device (acts_of w (s.tables w.device)).blocks s.tables;
      current = after_stage (stage_of w (s.tables w.device)) s.current;
    }

pub after_same : (v w : Work) → WorkAlike v w → (s : AbstractState) → after_work w s ≡ after_work v s
after_same v w h s = λ i. record { tables = tables i; current = current i }
  where
    tables : changed w.device (acts_of w (s.tables w.device)).blocks s.tables
        ≡ changed v.device (acts_of v (s.tables v.device)).blocks s.tables
    tables = (λ i. changed (h.device i) (acts_of w (s.tables (h.device i))).blocks s.tables)
        ∙ ap (λ bs. changed v.device bs s.tables) (blocks_same v w h (s.tables v.device))

    own : after_actions (acts_of w (s.tables w.device)).actions (current_at w.device s.current)
        ≡ after_actions (acts_of v (s.tables v.device)).actions (current_at v.device s.current)
    own = (λ i. after_actions (acts_of w (s.tables (h.device i))).actions (current_at (h.device i) s.current))
        ∙ actions_same v w h (s.tables v.device) (current_at v.device s.current)

    current : after_stage (stage_of w (s.tables w.device)) s.current ≡ after_stage (stage_of v (s.tables v.device)) s.current
    current = λ i. record {
      host = (own i).host;
      devices = changed (h.device i) (own i).device (λ e. other_same v w h (s.current.devices e) i);
    }
