-- Why an item is refused by itself, and the first cause.
use Rattle.std.specs.Prelude.{ℕ, ◌≡◌, ◌<◌, ◌≤◌, Bool, true, false, not, nat_lt, ◌&&◌, ◌||◌, ◌==◌, List, Option, Some, None}
use Rattle.std.specs.List.{list_any}
use Rattle.base.specs.declared.item.Cell.{Cell}
use Rattle.base.specs.declared.item.ItemKind.{ItemKind}
use Rattle.base.specs.declared.item.MapItem.{MapItem}
use Rattle.base.specs.declared.fault.Refusal.{Refusal}
use Rattle.base.specs.declared.fault.RefusalCode.{RefusalCode}
use Rattle.base.specs.declared.fault.RefusalCode.TheVariants.{OverlapsInPart, ExitOfAbsent, UpdateOfAbsent, NotPresent, Unmapped, HostNotCurrent, DeviceNotCurrent, TurnsMeet, Conflict}
use Rattle.base.specs.Memory.{is_in}
use Rattle.base.specs.Items.{Work}
use Rattle.base.specs.Footprint.{exposes, reads, writes}
use Rattle.base.specs.Actions.{Met, touches_in}
use Rattle.base.specs.Current.{Current}
use Rattle.base.specs.Turns.{turns_in_work, turns_meet}
use Rattle.base.specs.Accepted.{in_part, is_exit, is_host, is_target, is_update, met_at, names_absent, refusal_rank}
use Rattle.mapwalk.specs.declared.causes.Cause.{Cause}
use Rattle.base.specs.Least.{is_less as is_before}

abbrev pub refusal_of : Cause → ℕ → Refusal
refusal_of x item = record { code = x.code; item = item; cell = x.cell; other = None }

-- by code, and then by cell
abbrev pub is_less : RefusalCode → Cell → Cause → Bool
is_less code c x = nat_lt (refusal_rank code) (refusal_rank x.code)
    || ((refusal_rank code == refusal_rank x.code) && is_before c x.cell)

-- the cause of a code, where there is a cell for it
abbrev pub cause_at : RefusalCode → Option Cell → Option Cause
cause_at code None = None
cause_at code (Some cell) = Some (record { code = code; cell = cell })

-- the first of some causes, or none
abbrev pub IsFirstOf : (RefusalCode → Cell → Bool) → Option Cause → Type 0
IsFirstOf p None = (code : RefusalCode) (c : Cell) → p code c ≡ false
IsFirstOf p (Some x) =
    (p x.code x.cell ≡ true) × ((code : RefusalCode) (c : Cell) → p code c ≡ true → is_less code c x ≡ false)

-- a cell of a met section in part, and of a block
abbrev pub is_part_cell : Cell → Met → Bool
is_part_cell c m = in_part (met_at m) && (is_in c m.item.section && list_any (λ b. is_in c b.section) m.blocks)

-- the first cell of a met section that is absent, and need not be present
abbrev pub is_absent_cell : Cell → Met → Bool
is_absent_cell c m = not m.item.present && names_absent c m

-- the first cell of a met section that is absent, and is to be present
abbrev pub is_missing_cell : Cell → Met → Bool
is_missing_cell c m = m.item.present && names_absent c m

-- the causes that map items make
abbrev pub met_causes : ItemKind → List Met → RefusalCode → Cell → Bool
met_causes kind mets OverlapsInPart c = list_any (is_part_cell c) mets
met_causes kind mets ExitOfAbsent c = is_exit kind && list_any (names_absent c) mets
met_causes kind mets UpdateOfAbsent c = is_update kind && list_any (is_absent_cell c) mets
met_causes kind mets NotPresent c = not (is_exit kind) && list_any (is_missing_cell c) mets
met_causes kind mets Unmapped c = false
met_causes kind mets HostNotCurrent c = false
met_causes kind mets DeviceNotCurrent c = false
met_causes kind mets TurnsMeet c = false
met_causes kind mets Conflict c = false

-- the causes that a region makes, where k is what is current where it begins
abbrev pub region_causes : Work → Current → RefusalCode → Cell → Bool
region_causes w k OverlapsInPart c = false
region_causes w k ExitOfAbsent c = false
region_causes w k UpdateOfAbsent c = false
region_causes w k NotPresent c = false
region_causes w k Unmapped c =
    is_target w.kind
    && ((reads (touches_in w) c || writes (touches_in w) c) && not (list_any (λ m. is_in c m.section) w.maps))
region_causes w k HostNotCurrent c = is_host w.kind && (exposes (touches_in w) c && not (k.host c))
region_causes w k DeviceNotCurrent c = is_target w.kind && (exposes (touches_in w) c && not (k.device c))
region_causes w k TurnsMeet c = is_target w.kind && turns_meet (turns_in_work w) c
region_causes w k Conflict c = false

-- each of these cells is one of the first arrays
abbrev pub AreBelow : ℕ → (Cell → Bool) → Type 0
AreBelow n cells = (c : Cell) → cells c ≡ true → c.array.0 < n

-- the cells of the array from this one on, up to an end behind it, are in the sections of map items
pub record AreMapped (maps : List MapItem) (cell : Cell) (end : ℕ) : Type 0 where
  pub ahead : cell.index < end
  pub each : (j : ℕ) → cell.index ≤ j → j < end →
      list_any (λ m. is_in (record { array = cell.array; index = j }) m.section) maps ≡ true
