-- What an item does, spelled out of the row of its map items.
use Rattle.std.specs.Prelude.{ℕ, ◌≡◌, ◌<◌, Bool, false, not, ◌&&◌, ◌||◌, List, [], ◌∷◌, ◌++◌, Some, map, slice_get}
use Rattle.std.specs.List.{list_any}
use Rattle.base.specs.declared.fault.RefusalCode.TheVariants.{OverlapsInPart, NotPresent}
use Rattle.base.specs.declared.tree.Program.{Program}
use Rattle.base.specs.declared.item.Cell.{Cell}
use Rattle.base.specs.declared.item.MapItem.{MapItem}
use Rattle.base.specs.declared.item.MapKind.TheVariants.{Delete}
use Rattle.base.specs.declared.item.Section.{Section}
use Rattle.base.specs.declared.item.ItemKind.{ItemKind}
use Rattle.base.specs.declared.item.ItemKind.TheVariants as kind
use Rattle.base.specs.Map.{Block}
use Rattle.base.specs.Items.{Work, plan}
use Rattle.base.specs.Actions.{Action, Counts, Creates, CopiesIn, CopiesOut, HostRegion, Kernel, Removes, Met, Stage, acts_of, only_if, region_acts, rests, stages}
use Rattle.base.specs.Current.{AllCurrent}
use Rattle.base.specs.Accepted.{cause, in_part, is_absent, is_exit, met_at}
use Rattle.mapwalk.specs.declared.rows.Acts.{Acts}
use Rattle.mapwalk.specs.Acts.{acts_row, acts_rows, entries_after, entry_row, exit_row}
use Rattle.mapwalk.specs.Seen.{entry_mets}
use Rattle.mapwalk.specs.Walk.{HasNoRangeFault}

abbrev pub entry_actions : List MapItem → List Acts → List Action
entry_actions [] row = []
entry_actions (m ∷ maps) [] = []
entry_actions (m ∷ maps) (a ∷ row) =
    (Counts a.block a.rests ∷ (only_if a.creates (Creates a.block) ++ only_if a.copies_in (CopiesIn m.section)))
    ++ entry_actions maps row

abbrev pub exit_actions : List MapItem → List Acts → List Action
exit_actions [] row = []
exit_actions (m ∷ maps) [] = []
exit_actions (m ∷ maps) (a ∷ row) =
    (Counts a.block a.rests ∷ (only_if a.copies_out (CopiesOut m.section) ++ only_if a.removes (Removes a.block)))
    ++ exit_actions maps row

abbrev pub update_actions : List MapItem → List Acts → List Action
update_actions [] row = []
update_actions (m ∷ maps) [] = []
update_actions (m ∷ maps) (a ∷ row) =
    (Counts a.block a.rests ∷
    (only_if a.copies_in (CopiesIn m.section) ++ only_if a.copies_out (CopiesOut m.section)))
    ++ update_actions maps row

-- the entries, the region, the exits
abbrev pub actions_of : Work → List Acts → List Action
actions_of w row = at w.kind
  where
    at : ItemKind → List Action
    at kind.Host = (region_acts HostRegion w []).actions
    at kind.Target = entry_actions w.maps row ++ (region_acts Kernel w []).actions ++ exit_actions w.maps row
    at kind.Begin = entry_actions w.maps row
    at kind.Enter = entry_actions w.maps row
    at kind.End = exit_actions w.maps row
    at kind.Exit = exit_actions w.maps row
    at kind.Update = update_actions w.maps row
    at kind.Wait = []

-- some map item meets a block in part
abbrev pub meets_in_part : List Met → Bool
meets_in_part mets = list_any (λ m. in_part (met_at m)) mets

-- a map item's section is to be present and is absent
abbrev pub is_missing : Met → Bool
is_missing m = m.item.present && is_absent (met_at m)

-- some map item meets a block in part, or is missing where that counts
abbrev pub meets_badly : ItemKind → List Met → Bool
meets_badly kind mets = list_any (λ m. in_part (met_at m) || (not (is_exit kind) && is_missing m)) mets

abbrev pub block_named : Acts → Section
block_named a = a.block

-- each exit of a target is of the block of its entry
abbrev pub KeepsBlocks : List MapItem → List Block → Type 0
KeepsBlocks maps blocks =
    map block_named (exit_row (rests blocks) maps (entries_after maps blocks)) ≡ map block_named
    (entry_row (rests blocks) maps blocks)

-- where no map item meets a block in part or is missing, what an item does is spelled out of the row of its map items
abbrev pub ActsAreActions : Type 0
ActsAreActions =
    (w : Work) (blocks : List Block) → meets_badly w.kind (acts_of w blocks).met ≡ false →
    (w.kind ≡ kind.Target → KeepsBlocks w.maps blocks) → (acts_of w blocks).actions ≡ actions_of w (acts_row w blocks)

-- each section has a cell
abbrev pub AllWide : List MapItem → Type 0
AllWide [] = Unit {0}
AllWide (m ∷ maps) = (0 < m.section.length) × AllWide maps

-- no map item is a `delete`
abbrev pub NoDelete : List MapItem → Type 0
NoDelete [] = Unit {0}
NoDelete (m ∷ maps) = (m.kind ≡ Delete → ⊥) × NoDelete maps

-- where no entry of a target meets a block in part or is missing, each exit is of the block of its entry
abbrev pub TargetsKeepBlocks : Type 0
TargetsKeepBlocks =
    (maps : List MapItem) (blocks : List Block) → AllWide maps → NoDelete maps →
    meets_badly kind.Target (entry_mets maps blocks) ≡ false → KeepsBlocks maps blocks

-- what an item of a program does is spelled out of its row, where it is refused neither for an overlap in part nor for
-- a section that is missing
abbrev pub StagesAreSpelled : Type 0
StagesAreSpelled =
    (p : Program) (i : ℕ) (s : Stage) (row : List Acts) (k : AllCurrent) → HasNoRangeFault (plan p) →
    slice_get (stages (plan p)) i ≡ Some s → slice_get (acts_rows (plan p).items (λ d. [])) i ≡ Some row →
    ((c : Cell) → cause OverlapsInPart s k c ≡ false) → ((c : Cell) → cause NotPresent s k c ≡ false) →
    s.actions ≡ actions_of s.work row
