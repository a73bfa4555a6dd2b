-- What an item does, by the rows of its map items and its region.
use Rattle.std.proofs.Common.{◌≡◌, ℕ, Bool, false, List, [], ◌∷◌, ◌++◌, Option, Some, None, refl, sym, ap, ◌∙◌, append-nil, append_assoc}
use Rattle.std.specs.Prelude.{not, ◌&&◌, ◌||◌}
use Rattle.std.specs.List.{list_any}
use Rattle.std.proofs.Math.Bool.{or-false}
use Rattle.base.specs.declared.item.Cell.{Cell}
use Rattle.base.specs.declared.item.Depend.{Depend}
use Rattle.base.specs.declared.item.MapItem.{MapItem}
use Rattle.base.specs.declared.item.ItemKind.{ItemKind}
use Rattle.base.specs.declared.item.ItemKind.TheVariants.{Host, Target, Begin, End, Enter, Exit, Update, Wait}
use Rattle.base.specs.declared.fault.RefusalCode.{RefusalCode}
use Rattle.base.specs.declared.fault.RefusalCode.TheVariants.{OverlapsInPart, ExitOfAbsent, UpdateOfAbsent, NotPresent, Unmapped, HostNotCurrent, DeviceNotCurrent, TurnsMeet, Conflict}
use Rattle.base.specs.declared.tree.Place.{Place}
use Rattle.base.specs.declared.tree.Region.{Region}
use Rattle.base.specs.Items.{Work}
use Rattle.base.specs.Map.{Block}
use Rattle.base.specs.Footprint.{exposes, touches_of}
use Rattle.base.specs.Actions.{Acted, Action, Kernel, acts_of, always_works, each_acts, entry_acts, exit_acts, rests, touches_in}
use Rattle.base.specs.Current.{Current, after_actions}
use Rattle.base.specs.Accepted.{cause, is_exit, is_host, is_target, is_update, names_absent, reads_stale}
use Rattle.mapwalk.specs.Acts.{acts_row, entries_after, entry_row, exit_row, exits_after}
use Rattle.mapwalk.specs.Kinds.{after_maps, after_region, before_region, joined_by, met_by}
use Rattle.mapwalk.specs.Seen.{entry_mets, exit_mets}
use Rattle.mapwalk.specs.Sides.{after_acts}
use Rattle.mapwalk.specs.Regions.{region_actions}
use Rattle.mapwalk.specs.Causes.{is_absent_cell, is_missing_cell, is_part_cell, met_causes, region_causes}
use Rattle.mapwalk.specs.Steps.{everywhere, stage_of}
use Rattle.mapwalk.proofs.ActedParts.{AreAll, after_append, all_entered, all_left, all_updated}

no_acts : (maps : List MapItem) (k : Current) → after_acts maps [] k ≡ k
no_acts [] k = refl
no_acts (m ∷ maps) k = refl

-- what is current where the region begins
abbrev pub at_region : Work → List Block → Current → Current
at_region w blocks k = after_acts w.maps (before_region w.kind w.maps blocks) k

pub record Parts (w : Work) (blocks : List Block) : Type 0 where
  pub met : (acts_of w blocks).met ≡ met_by w.kind w.maps blocks
  pub blocks_after : (acts_of w blocks).blocks ≡ after_maps w.kind w.maps blocks
  pub row : acts_row w blocks ≡ joined_by w.kind (before_region w.kind w.maps blocks) (after_region w.kind w.maps blocks)
  pub current : (k : Current) → after_actions (acts_of w blocks).actions k
      ≡ after_acts w.maps (after_region w.kind w.maps blocks) (after_actions (region_actions w) (at_region w blocks k))
  pub host_stale : (k : Current) (c : Cell) → (is_host w.kind && reads_stale (acts_of w blocks).actions k c)
      ≡ (is_host w.kind && (exposes (touches_in w) c && not ((at_region w blocks k).host c)))
  pub device_stale : (k : Current) (c : Cell) → (is_target w.kind && reads_stale (acts_of w blocks).actions k c)
      ≡ (is_target w.kind && (exposes (touches_in w) c && not ((at_region w blocks k).device c)))

abbrev left_alone : (maps : List MapItem) (k : Current) → k ≡ after_acts maps [] (after_acts maps [] k)
left_alone maps k = sym (no_acts maps (after_acts maps [] k) ∙ no_acts maps k)

-- the entries, the region's actions, the exits
module _ (maps : List MapItem) (blocks : List Block) (region : List Action) where
  abbrev first : Acted
  first = each_acts (entry_acts (rests blocks)) maps blocks

  abbrev second : List Block → Acted
  second bs = each_acts (exit_acts (rests blocks)) maps bs

  abbrev later : List Block
  later = entries_after maps blocks

  entries : AreAll maps (entry_mets maps blocks) (entry_row (rests blocks) maps blocks) later first
  entries = all_entered (rests blocks) maps blocks

  exits : AreAll maps (exit_mets maps later) (exit_row (rests blocks) maps later) (exits_after maps later) (second later)
  exits = all_left (rests blocks) maps later

  pub target_met : (first.met ++ []) ++ (second first.blocks).met ≡ entry_mets maps blocks ++ exit_mets maps later
  target_met =
      ap (λ xs. xs ++ (second first.blocks).met) (append-nil first.met ∙ entries.met)
      ∙ ap (λ bs. entry_mets maps blocks ++ (second bs).met) entries.blocks_after
      ∙ ap (λ ys. entry_mets maps blocks ++ ys) exits.met

  target_blocks : (second first.blocks).blocks ≡ after_maps Target maps blocks
  target_blocks = ap (λ bs. (second bs).blocks) entries.blocks_after ∙ exits.blocks_after

  target_current : (k : Current) → after_actions ((first.actions ++ region) ++ (second first.blocks).actions) k
      ≡ after_acts maps (exit_row (rests blocks) maps later)
      (after_actions region (after_acts maps (entry_row (rests blocks) maps blocks) k))
  target_current k =
      after_append (first.actions ++ region) (second first.blocks).actions k
      ∙ ap (λ bs. after_actions (second bs).actions (after_actions (first.actions ++ region) k)) entries.blocks_after
      ∙ exits.current (after_actions (first.actions ++ region) k)
      ∙ ap (after_acts maps (exit_row (rests blocks) maps later))
      (after_append first.actions region k ∙ ap (after_actions region) (entries.current k))

  target_stale : (k : Current) (c : Cell) → reads_stale ((first.actions ++ region) ++ (second first.blocks).actions) k c
      ≡ reads_stale (region ++ (second first.blocks).actions) (after_actions first.actions k) c
  target_stale k c =
      ap (λ xs. reads_stale xs k c) (append_assoc first.actions region (second first.blocks).actions)
      ∙ entries.quiet (region ++ (second first.blocks).actions) k c

  exits_quiet : (k : Current) (c : Cell) → reads_stale (second first.blocks).actions k c ≡ false
  exits_quiet k c =
      ap (λ bs. reads_stale (second bs).actions k c) entries.blocks_after
      ∙ ap (λ xs. reads_stale xs k c) (sym (append-nil (second later).actions))
      ∙ exits.quiet [] k c

abbrev pub work_of : ItemKind → Place → Bool → ℕ → List MapItem → List Depend → Option Region → List ℕ → Work
work_of kind place deferred device maps depends region loops =
    record {
      kind = kind;
      place = place;
      deferred = deferred;
      device = device;
      maps = maps;
      depends = depends;
      region = region;
      loops = loops;
    }

parts_of : (kind : ItemKind) (place : Place) (deferred : Bool) (device : ℕ) (maps : List MapItem) (depends : List Depend)
    (region : Option Region) (loops : List ℕ) (blocks : List Block) →
    Parts (work_of kind place deferred device maps depends region loops) blocks
parts_of Host p d e maps ds None loops blocks =
    record {
      met = refl;
      blocks_after = refl;
      row = refl;
      current = λ k. left_alone maps k;
      host_stale = λ k c. refl;
      device_stale = λ k c. refl;
    }
parts_of Host p d e maps ds (Some r) loops blocks =
    record {
      met = refl;
      blocks_after = refl;
      row = refl;
      current = λ k. ap (λ j. after_actions (acts_of (work_of Host p d e maps ds (Some r) loops) blocks).actions j) (sym (no_acts maps k))
          ∙ sym (no_acts maps _);
      host_stale = λ k c. ap (λ (j : Current). exposes (touches_of r loops) c && not (j.host c)) (sym (no_acts maps k));
      device_stale = λ k c. refl;
    }
parts_of Target p d e maps ds None loops blocks =
    record {
      met = target_met maps blocks [];
      blocks_after = target_blocks maps blocks [];
      row = refl;
      current = target_current maps blocks [];
      host_stale = λ k c. refl;
      device_stale = λ k c. target_stale maps blocks [] k c ∙ exits_quiet maps blocks [] _ c;
    }
parts_of Target p d e maps ds (Some r) loops blocks =
    record {
      met = target_met maps blocks (Kernel (touches_of r loops) ∷ []);
      blocks_after = target_blocks maps blocks (Kernel (touches_of r loops) ∷ []);
      row = refl;
      current = target_current maps blocks (Kernel (touches_of r loops) ∷ []);
      host_stale = λ k c. refl;
      device_stale = λ k c.
          target_stale maps blocks (Kernel (touches_of r loops) ∷ []) k c
          ∙ ap (λ (j : Current). exposes (touches_of r loops) c && not (j.device c))
          ((all_entered (rests blocks) maps blocks).current k);
    }
parts_of Begin p d e maps ds region loops blocks =
    let all = all_entered always_works maps blocks in
    record {
      met = all.met;
      blocks_after = all.blocks_after;
      row = refl;
      current = λ k. all.current k ∙ sym (no_acts maps (after_acts maps (entry_row always_works maps blocks) k));
      host_stale = λ k c. refl;
      device_stale = λ k c. refl;
    }
parts_of Enter p d e maps ds region loops blocks =
    let all = all_entered always_works maps blocks in
    record {
      met = all.met;
      blocks_after = all.blocks_after;
      row = refl;
      current = λ k. all.current k ∙ sym (no_acts maps (after_acts maps (entry_row always_works maps blocks) k));
      host_stale = λ k c. refl;
      device_stale = λ k c. refl;
    }
parts_of End p d e maps ds region loops blocks =
    let all = all_left always_works maps blocks in
    record {
      met = all.met;
      blocks_after = all.blocks_after;
      row = refl;
      current = λ k. all.current k ∙ ap (after_acts maps (exit_row always_works maps blocks)) (sym (no_acts maps k));
      host_stale = λ k c. refl;
      device_stale = λ k c. refl;
    }
parts_of Exit p d e maps ds region loops blocks =
    let all = all_left always_works maps blocks in
    record {
      met = all.met;
      blocks_after = all.blocks_after;
      row = refl;
      current = λ k. all.current k ∙ ap (after_acts maps (exit_row always_works maps blocks)) (sym (no_acts maps k));
      host_stale = λ k c. refl;
      device_stale = λ k c. refl;
    }
parts_of Update p d e maps ds region loops blocks =
    let all = all_updated maps blocks in
    record {
      met = all.met;
      blocks_after = all.blocks_after;
      row = refl;
      current = λ k. all.current k ∙ sym (no_acts maps _);
      host_stale = λ k c. refl;
      device_stale = λ k c. refl;
    }
parts_of Wait p d e maps ds region loops blocks =
    record {
      met = refl;
      blocks_after = refl;
      row = refl;
      current = λ k. left_alone maps k;
      host_stale = λ k c. refl;
      device_stale = λ k c. refl;
    }

pub parts : (w : Work) (blocks : List Block) → Parts w blocks
parts w blocks = parts_of w.kind w.place w.deferred w.device w.maps w.depends w.region w.loops blocks

-- a cause is one that map items make, or one that the region makes
pub cause_split : (w : Work) (blocks : List Block) (k : Current) (code : RefusalCode) (c : Cell) →
    cause code (stage_of w blocks) (everywhere k) c
    ≡ (met_causes w.kind (met_by w.kind w.maps blocks) code c || region_causes w (at_region w blocks k) code c)
cause_split w blocks k OverlapsInPart c =
    ap (λ ms. list_any (is_part_cell c) ms) (parts w blocks).met ∙ sym (or-false _)
cause_split w blocks k ExitOfAbsent c =
    ap (λ ms. is_exit w.kind && list_any (names_absent c) ms) (parts w blocks).met ∙ sym (or-false _)
cause_split w blocks k UpdateOfAbsent c =
    ap (λ ms. is_update w.kind && list_any (is_absent_cell c) ms) (parts w blocks).met ∙ sym (or-false _)
cause_split w blocks k NotPresent c =
    ap (λ ms. not (is_exit w.kind) && list_any (is_missing_cell c) ms) (parts w blocks).met ∙ sym (or-false _)
cause_split w blocks k Unmapped c = refl
cause_split w blocks k HostNotCurrent c = (parts w blocks).host_stale k c
cause_split w blocks k DeviceNotCurrent c = (parts w blocks).device_stale k c
cause_split w blocks k TurnsMeet c = refl
cause_split w blocks k Conflict c = refl
