-- What an item of a program does is spelled out of its row, where it meets nothing in part.
use Rattle.std.proofs.Common.{◌≡◌, ℕ, zero, suc, ◌<◌, Bool, true, false, ◌==◌, List, [], ◌∷◌, ◌++◌, ◌⊎◌, inl, inr, map, Option, Some, None, refl, sym, ap, ◌∙◌, subst, arith}
use Rattle.std.specs.Prelude.{filter, nat_lt, not, ◌&&◌, ◌||◌, if◌then◌else◌, slice_get, slice_index}
use Rattle.std.specs.List.{list_any}
use Rattle.std.proofs.lemmas.Bool.{cases_Bool, cond-true, cond-false, or_parts}
use Rattle.std.proofs.lemmas.List.Folds.{list_any-append}
use Rattle.std.proofs.lemmas.Option.{same_Some}
use Rattle.base.proofs.Nils.{nil_parts}
use Rattle.base.specs.declared.item.Cell.{Cell}
use Rattle.base.specs.declared.item.MapItem.{MapItem}
use Rattle.base.specs.declared.item.ItemKind.TheVariants.{Target}
use Rattle.base.specs.declared.fault.RangeFault.{RangeFault}
use Rattle.base.specs.declared.fault.RefusalCode.TheVariants.{OverlapsInPart, NotPresent}
use Rattle.base.specs.Memory.{changed, end_of}
use Rattle.base.specs.Items.{Work, plan}
use Rattle.base.specs.Map.{Block}
use Rattle.base.specs.Meaning.{lengths_of}
use Rattle.base.specs.Actions.{Met, Stage, acts_of, stages_from}
use Rattle.base.specs.Current.{AllCurrent}
use Rattle.base.specs.Accepted.{cause, depend_fault, in_part, is_exit, map_fault, met_at, range_faults, region_faults, section_fails, section_faults}
use Rattle.mapwalk.specs.declared.rows.Acts.{Acts}
use Rattle.mapwalk.specs.Acts.{acts_row, acts_rows, entries_after}
use Rattle.mapwalk.specs.Causes.{is_missing_cell, is_part_cell}
use Rattle.mapwalk.specs.Kinds.{met_by}
use Rattle.mapwalk.specs.Laws.{AllWide, KeepsBlocks, NoDelete, StagesAreSpelled, actions_of, is_missing, meets_badly}
use Rattle.mapwalk.specs.Seen.{entry_mets, exit_mets}
use Rattle.mapwalk.specs.Steps.{stage_of}
use Rattle.mapwalk.proofs.KeptBlocks.{kept_blocks}
use Rattle.mapwalk.proofs.NoParts.{BlocksWide, mets_wide, not_bad}
use Rattle.mapwalk.proofs.RowActions.{acts_are_actions}
use Rattle.mapwalk.proofs.TargetMaps.{target_keeps_maps}
use Rattle.mapwalk.proofs.Walking.{no_fault_at}
use Rattle.mapwalk.proofs.WorkParts.{parts}

long_from : (n : ℕ) → (n == 0) ≡ false → 0 < n
long_from zero e = absurd cc
long_from (suc n) e = omega arith

-- sections that do not fail have cells
none_fail : (lengths : List ℕ) (maps : List MapItem) → map map_fault (filter (λ m. section_fails lengths m.section) maps) ≡ [] →
    AllWide maps
none_fail lengths [] e = tt
none_fail lengths (m ∷ maps) e = go (none_fail lengths maps) (cases_Bool (section_fails lengths m.section))
  where
    go : (map map_fault (filter (λ (x : MapItem). section_fails lengths x.section) maps) ≡ [] → AllWide maps) →
        (section_fails lengths m.section ≡ true) ⊎ (section_fails lengths m.section ≡ false) → AllWide (m ∷ maps)
    go again (inl t) = absurd (some (sym (ap (map map_fault)
        (cond-true (section_fails lengths m.section) (m ∷ filter (λ x. section_fails lengths x.section) maps)
        (filter (λ x. section_fails lengths x.section) maps) t)) ∙ e))
      where
        some : {x : RangeFault} {xs : List RangeFault} → x ∷ xs ≡ [] → ⊥
        some e = cc e
    go again (inr t) = (
      long_from m.section.length
          (or_parts (m.section.length == 0) (nat_lt (slice_index lengths m.section.array.0) (end_of m.section)) t).0,
      again (sym (ap (map map_fault)
          (cond-false (section_fails lengths m.section) (m ∷ filter (λ x. section_fails lengths x.section) maps)
          (filter (λ x. section_fails lengths x.section) maps) t)) ∙ e),
    )

all_wide : (lengths : List ℕ) (w : Work) → range_faults lengths w ≡ [] → AllWide w.maps
all_wide lengths w e =
    let sections = (nil_parts (section_faults lengths w.maps w.depends) (region_faults lengths w.loops w.region) e).0 in
    none_fail lengths w.maps
    ((nil_parts (map map_fault (filter (λ m. section_fails lengths m.section) w.maps))
    (map depend_fault (filter (λ d. section_fails lengths d.section) w.depends)) sections).0)

-- of one item
spelled_one : (w : Work) (blocks : List Block) (k : AllCurrent) → AllWide w.maps → (w.kind ≡ Target → NoDelete w.maps) →
    BlocksWide blocks → ((c : Cell) → cause OverlapsInPart (stage_of w blocks) k c ≡ false) →
    ((c : Cell) → cause NotPresent (stage_of w blocks) k c ≡ false) →
    (acts_of w blocks).actions ≡ actions_of w (acts_row w blocks)
spelled_one w blocks k wide keeps h none least = acts_are_actions w blocks apart target
  where
    met : (acts_of w blocks).met ≡ met_by w.kind w.maps blocks
    met = (parts w blocks).met

    apart : meets_badly w.kind (acts_of w blocks).met ≡ false
    apart = ap (meets_badly w.kind) met
        ∙ not_bad w.kind (met_by w.kind w.maps blocks) (mets_wide w.kind w.maps blocks wide h).0
        (λ c. ap (list_any (is_part_cell c)) (sym met) ∙ none c)
        (λ c. ap (λ ms. not (is_exit w.kind) && list_any (is_missing_cell c) ms) (sym met) ∙ least c)

    target : w.kind ≡ Target → KeepsBlocks w.maps blocks
    target e =
        let is : (acts_of w blocks).met ≡ entry_mets w.maps blocks ++ exit_mets w.maps (entries_after w.maps blocks) =
        met ∙ ap (λ kind. met_by kind w.maps blocks) e in
        kept_blocks w.maps blocks wide (keeps e)
        (or_parts (meets_badly Target (entry_mets w.maps blocks))
        (meets_badly Target (exit_mets w.maps (entries_after w.maps blocks)))
        (sym (list_any-append (λ (m : Met). in_part (met_at m) || is_missing m) (entry_mets w.maps blocks)
        (exit_mets w.maps (entries_after w.maps blocks)))
        ∙ ap (meets_badly Target) (sym is) ∙ ap (λ kind. meets_badly kind (acts_of w blocks).met) (sym e) ∙ apart)).0

record IsFine (w : Work) : Type 0 where
  wide : AllWide w.maps
  keeps : w.kind ≡ Target → NoDelete w.maps

no_stage : {P : Type 0} (s : Stage) → ◌≡◌ {A = Option Stage} None (Some s) → P
no_stage s e = absurd cc

spelled : (items : List Work) (tables : ℕ → List Block) (i : ℕ) (s : Stage) (row : List Acts) (k : AllCurrent) →
    ((j : ℕ) (w : Work) → slice_get items j ≡ Some w → IsFine w) → ((d : ℕ) → BlocksWide (tables d)) →
    slice_get (stages_from items tables) i ≡ Some s → slice_get (acts_rows items tables) i ≡ Some row →
    ((c : Cell) → cause OverlapsInPart s k c ≡ false) → ((c : Cell) → cause NotPresent s k c ≡ false) →
    s.actions ≡ actions_of s.work row
spelled [] tables i s row k fine h e f none least = absurd (no_get i e)
  where
    no_get : (i : ℕ) → slice_get {X = Stage} [] i ≡ Some s → ⊥
    no_get zero e = no_stage s e
    no_get (suc i) e = no_stage s e
spelled (w ∷ items) tables zero s row k fine h e f none least =
    let blocks = tables w.device in
    let is : stage_of w blocks ≡ s = same_Some (stage_of w blocks) s e in
    let at : acts_row w blocks ≡ row = same_Some (acts_row w blocks) row f in
    let good = fine zero w refl in
    subst (λ (x : Stage). x.actions ≡ actions_of x.work row) is
    (subst (λ (x : List Acts). (acts_of w blocks).actions ≡ actions_of w x) at
    (spelled_one w blocks k good.wide good.keeps (h w.device)
    (subst (λ (x : Stage). (c : Cell) → cause OverlapsInPart x k c ≡ false) (sym is) none)
    (subst (λ (x : Stage). (c : Cell) → cause NotPresent x k c ≡ false) (sym is) least)))
spelled (w ∷ items) tables (suc i) s row k fine h e f none least =
    spelled items (changed w.device (acts_of w (tables w.device)).blocks tables) i s row k (λ j v g. fine (suc j) v g)
    (λ d. still d (d == w.device)) e f none least
  where
    still : (d : ℕ) (b : Bool) → BlocksWide (if b then (acts_of w (tables w.device)).blocks else tables d)
    still d true =
        subst BlocksWide (sym (parts w (tables w.device)).blocks_after)
        (mets_wide w.kind w.maps (tables w.device) (fine zero w refl).wide (h w.device)).1
    still d false = h d

pub stages_are_spelled : StagesAreSpelled
stages_are_spelled p i s row k none e f clean least =
    spelled (plan p).items (λ d. []) i s row k
    (λ j w g. record {
      wide = all_wide (lengths_of p) w (no_fault_at (plan p) j w none g);
      keeps = target_keeps_maps (lengths_of p) p.body.items j w g;
    }) (λ d. tt) e f clean least
