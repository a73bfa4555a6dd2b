-- What an item does, spelled out of the row of its map items.
use Rattle.std.proofs.Common.{◌≡◌, ℕ, Bool, true, false, List, [], ◌∷◌, ◌++◌, Option, Some, None, map, refl, sym, ap, ◌∙◌}
use Rattle.std.specs.Prelude.{not, ◌&&◌, ◌||◌}
use Rattle.std.proofs.lemmas.List.Folds.{list_any-append}
use Rattle.std.proofs.lemmas.Bool.{or_from, or_parts}
use Rattle.base.specs.declared.item.Depend.{Depend}
use Rattle.base.specs.declared.item.MapItem.{MapItem}
use Rattle.base.specs.declared.item.ItemKind.{ItemKind}
use Rattle.base.specs.declared.item.ItemKind.TheVariants.{Host, Target, Begin, End, Enter, Exit, Update, Wait}
use Rattle.base.specs.declared.tree.Place.{Place}
use Rattle.base.specs.declared.tree.Region.{Region}
use Rattle.base.specs.Items.{Work}
use Rattle.base.specs.Map.{Block, Move, Presence, Absent, Inside, InPart, blocks_after, entry, exit, presence}
use Rattle.base.specs.Footprint.{touches_of}
use Rattle.base.specs.Actions.{Action, Kernel, Counts, Creates, CopiesIn, CopiesOut, Removes, Met, acts_of, always_works, each_acts, entry_acts, exit_acts, only_if, rests, update_acts}
use Rattle.base.specs.Accepted.{in_part, is_absent, is_exit, met_at}
use Rattle.mapwalk.specs.declared.rows.Acts.{Acts}
use Rattle.mapwalk.specs.Acts.{acts_row, entered, entries_after, entry_of, entry_row, exit_of, exit_row, joined, left, moved, update_row, updated}
use Rattle.mapwalk.specs.Seen.{entry_mets, exit_mets, update_mets}
use Rattle.mapwalk.specs.Laws.{ActsAreActions, KeepsBlocks, actions_of, block_named, entry_actions, exit_actions, is_missing, meets_badly, meets_in_part, update_actions}
use Rattle.mapwalk.proofs.ActedParts.{all_entered, all_left, all_updated}
use Rattle.mapwalk.proofs.WorkParts.{target_met, work_of}

abbrev met : MapItem → List Block → Met
met item blocks = record { item = item; blocks = blocks }

-- what one entry does, and what one exit does
abbrev entered_acts : Bool → MapItem → Option Move → List Action
entered_acts r item None = []
entered_acts r item (Some m) =
    Counts m.block r ∷ (only_if m.changes (Creates m.block) ++ only_if m.copies (CopiesIn item.section))

abbrev left_acts : Bool → MapItem → Option Move → List Action
left_acts r item None = []
left_acts r item (Some m) =
    Counts m.block r ∷ (only_if m.copies (CopiesOut item.section) ++ only_if m.changes (Removes m.block))

abbrev entry_part : MapItem → Acts → List Action
entry_part item a =
    Counts a.block a.rests ∷ (only_if a.creates (Creates a.block) ++ only_if a.copies_in (CopiesIn item.section))

abbrev exit_part : MapItem → Acts → List Action
exit_part item a =
    Counts a.block a.rests ∷ (only_if a.copies_out (CopiesOut item.section) ++ only_if a.removes (Removes a.block))

abbrev is_move : Option Move → Bool
is_move None = false
is_move (Some m) = true

enters : (item : MapItem) (blocks : List Block) →
    (in_part (met_at (met item blocks)) || is_missing (met item blocks)) ≡ false → is_move (entry item blocks) ≡ true
enters item blocks h = go (presence blocks item.section) refl
  where
    fine : (in_part (met_at (met item blocks)) ≡ false) × (is_missing (met item blocks) ≡ false)
    fine = or_parts (in_part (met_at (met item blocks))) (is_missing (met item blocks)) h

    go : (at : Presence) → presence blocks item.section ≡ at → is_move (entry item blocks) ≡ true
    go Absent e = absent item.present refl
      where
        absent : (b : Bool) → item.present ≡ b → is_move (entry item blocks) ≡ true
        absent true p = absurd (let x : true ≡ false = (λ i. sym p i && is_absent (sym e i)) ∙ fine.1 in cc)
        absent false p = rw (e, p) refl
    go (Inside b) e = rw e refl
    go InPart e = absurd (let x : true ≡ false = ap in_part (sym e) ∙ fine.0 in cc)

leaves : (item : MapItem) (blocks : List Block) → in_part (met_at (met item blocks)) ≡ false → is_move (exit item blocks) ≡ true
leaves item blocks h = go (presence blocks item.section) refl
  where
    go : (at : Presence) → presence blocks item.section ≡ at → is_move (exit item blocks) ≡ true
    go Absent e = rw e refl
    go (Inside b) e = rw e refl
    go InPart e = absurd (let x : true ≡ false = ap in_part (sym e) ∙ h in cc)

-- what stands against an entry
abbrev stands : MapItem → List Block → Bool
stands item blocks = in_part (met_at (met item blocks)) || is_missing (met item blocks)

-- what stands against entries stands against exits in part alone
in_part_alone : (kind : ItemKind) (mets : List Met) → meets_badly kind mets ≡ false → meets_in_part mets ≡ false
in_part_alone kind [] h = refl
in_part_alone kind (m ∷ mets) h =
    let both = or_parts (in_part (met_at m) || (not (is_exit kind) && is_missing m)) (meets_badly kind mets) h in
    or_from (in_part (met_at m)) (meets_in_part mets)
    (or_parts (in_part (met_at m)) (not (is_exit kind) && is_missing m) both.0).0 (in_part_alone kind mets both.1)

entry_spelled : (r : Bool) (item : MapItem) (o : Option Move) → is_move o ≡ true →
    entered_acts r item o ≡ entry_part item (moved (entered r) item.section o)
entry_spelled r item None h = absurd cc
entry_spelled r item (Some m) h = refl

exit_spelled : (r : Bool) (item : MapItem) (o : Option Move) → is_move o ≡ true →
    left_acts r item o ≡ exit_part item (moved (left r) item.section o)
exit_spelled r item None h = absurd cc
exit_spelled r item (Some m) h = refl

entry_one : (f : MapItem → Bool) (item : MapItem) (blocks : List Block) →
    (entry_acts f item blocks).actions ≡ entered_acts (f item) item (entry item blocks)
entry_one f item blocks = go (entry item blocks) refl
  where
    go : (o : Option Move) → entry item blocks ≡ o → (entry_acts f item blocks).actions ≡ entered_acts (f item) item (entry item blocks)
    go None e = rw e refl
    go (Some m) e = rw e refl

exit_one : (f : MapItem → Bool) (item : MapItem) (blocks : List Block) →
    (exit_acts f item blocks).actions ≡ left_acts (f item) item (exit item blocks)
exit_one f item blocks = go (exit item blocks) refl
  where
    go : (o : Option Move) → exit item blocks ≡ o → (exit_acts f item blocks).actions ≡ left_acts (f item) item (exit item blocks)
    go None e = rw e refl
    go (Some m) e = rw e refl

entry_next : (f : MapItem → Bool) (item : MapItem) (blocks : List Block) →
    (entry_acts f item blocks).blocks ≡ blocks_after blocks (entry item blocks)
entry_next f item blocks = go (entry item blocks) refl
  where
    go : (o : Option Move) → entry item blocks ≡ o → (entry_acts f item blocks).blocks ≡ blocks_after blocks (entry item blocks)
    go None e = rw e refl
    go (Some m) e = rw e refl

exit_next : (f : MapItem → Bool) (item : MapItem) (blocks : List Block) →
    (exit_acts f item blocks).blocks ≡ blocks_after blocks (exit item blocks)
exit_next f item blocks = go (exit item blocks) refl
  where
    go : (o : Option Move) → exit item blocks ≡ o → (exit_acts f item blocks).blocks ≡ blocks_after blocks (exit item blocks)
    go None e = rw e refl
    go (Some m) e = rw e refl

each_entered : (f : MapItem → Bool) (maps : List MapItem) (blocks : List Block) →
    meets_badly Target (entry_mets maps blocks) ≡ false →
    (each_acts (entry_acts f) maps blocks).actions ≡ entry_actions maps (entry_row f maps blocks)
each_entered f [] blocks h = refl
each_entered f (item ∷ maps) blocks h =
    let next = blocks_after blocks (entry item blocks) in
    ap (λ xs. xs ++ (each_acts (entry_acts f) maps (entry_acts f item blocks).blocks).actions)
    (entry_one f item blocks ∙ entry_spelled (f item) item (entry item blocks)
    (enters item blocks (or_parts (stands item blocks) _ h).0))
    ∙ ap (λ bs. entry_part item (entry_of (f item) item blocks) ++ (each_acts (entry_acts f) maps bs).actions) (entry_next f item blocks)
    ∙ ap (λ ys. entry_part item (entry_of (f item) item blocks) ++ ys)
    (each_entered f maps next (or_parts (stands item blocks) _ h).1)

each_left : (f : MapItem → Bool) (maps : List MapItem) (blocks : List Block) → meets_in_part (exit_mets maps blocks) ≡ false →
    (each_acts (exit_acts f) maps blocks).actions ≡ exit_actions maps (exit_row f maps blocks)
each_left f [] blocks h = refl
each_left f (item ∷ maps) blocks h =
    let next = blocks_after blocks (exit item blocks) in
    ap (λ xs. xs ++ (each_acts (exit_acts f) maps (exit_acts f item blocks).blocks).actions)
    (exit_one f item blocks ∙ exit_spelled (f item) item (exit item blocks)
    (leaves item blocks (or_parts (in_part (met_at (met item blocks))) _ h).0))
    ∙ ap (λ bs. exit_part item (exit_of (f item) item blocks) ++ (each_acts (exit_acts f) maps bs).actions) (exit_next f item blocks)
    ∙ ap (λ ys. exit_part item (exit_of (f item) item blocks) ++ ys)
    (each_left f maps next (or_parts (in_part (met_at (met item blocks))) _ h).1)

abbrev update_part : MapItem → Acts → List Action
update_part item a =
    Counts a.block a.rests ∷ (only_if a.copies_in (CopiesIn item.section) ++ only_if a.copies_out (CopiesOut item.section))

update_one : (item : MapItem) (blocks : List Block) → in_part (met_at (met item blocks)) ≡ false →
    (update_acts item blocks).actions ≡ update_part item (updated item (presence blocks item.section))
update_one item blocks h = go (presence blocks item.section) refl
  where
    go : (at : Presence) → presence blocks item.section ≡ at →
        (update_acts item blocks).actions ≡ update_part item (updated item (presence blocks item.section))
    go Absent e = rw e refl
    go (Inside b) e = rw e refl
    go InPart e = absurd (let x : true ≡ false = ap in_part (sym e) ∙ h in cc)

update_next : (item : MapItem) (blocks : List Block) → (update_acts item blocks).blocks ≡ blocks
update_next item blocks = go (presence blocks item.section) refl
  where
    go : (at : Presence) → presence blocks item.section ≡ at → (update_acts item blocks).blocks ≡ blocks
    go Absent e = rw e refl
    go (Inside b) e = rw e refl
    go InPart e = rw e refl

each_updated : (maps : List MapItem) (blocks : List Block) → meets_in_part (update_mets maps blocks) ≡ false →
    (each_acts update_acts maps blocks).actions ≡ update_actions maps (update_row maps blocks)
each_updated [] blocks h = refl
each_updated (item ∷ maps) blocks h =
    let part = update_part item (updated item (presence blocks item.section)) in
    ap (λ xs. xs ++ (each_acts update_acts maps (update_acts item blocks).blocks).actions)
    (update_one item blocks (or_parts (in_part (met_at (met item blocks))) _ h).0)
    ∙ ap (λ bs. part ++ (each_acts update_acts maps bs).actions) (update_next item blocks)
    ∙ ap (λ ys. part ++ ys) (each_updated maps blocks (or_parts (in_part (met_at (met item blocks))) _ h).1)

abbrev resting : Acts → Bool
resting a = a.rests

entry_rests : (f : MapItem → Bool) (maps : List MapItem) (blocks : List Block) →
    meets_badly Target (entry_mets maps blocks) ≡ false →
    map resting (entry_row f maps blocks) ≡ map f maps
entry_rests f [] blocks h = refl
entry_rests f (item ∷ maps) blocks h =
    (λ i. go (entry item blocks) (enters item blocks (or_parts (stands item blocks) _ h).0) i
    ∷ entry_rests f maps (blocks_after blocks (entry item blocks)) (or_parts (stands item blocks) _ h).1 i)
  where
    go : (o : Option Move) → is_move o ≡ true → (moved (entered (f item)) item.section o).rests ≡ f item
    go None e = absurd cc
    go (Some m) e = refl

exit_rests : (f : MapItem → Bool) (maps : List MapItem) (blocks : List Block) → meets_in_part (exit_mets maps blocks) ≡ false →
    map resting (exit_row f maps blocks) ≡ map f maps
exit_rests f [] blocks h = refl
exit_rests f (item ∷ maps) blocks h =
    (λ i. go (exit item blocks) (leaves item blocks (or_parts (in_part (met_at (met item blocks))) _ h).0) i
    ∷ exit_rests f maps (blocks_after blocks (exit item blocks)) (or_parts (in_part (met_at (met item blocks))) _ h).1 i)
  where
    go : (o : Option Move) → is_move o ≡ true → (moved (left (f item)) item.section o).rests ≡ f item
    go None e = absurd cc
    go (Some m) e = refl

joined_entries : (maps : List MapItem) (xs ys : List Acts) → entry_actions maps (joined xs ys) ≡ entry_actions maps xs
joined_entries [] xs ys = refl
joined_entries (m ∷ maps) [] ys = refl
joined_entries (m ∷ maps) (x ∷ xs) [] = refl
joined_entries (m ∷ maps) (x ∷ xs) (y ∷ ys) = ap (λ zs. entry_part m x ++ zs) (joined_entries maps xs ys)

joined_exits : (maps : List MapItem) (xs ys : List Acts) → map block_named ys ≡ map block_named xs →
    map resting ys ≡ map resting xs → exit_actions maps (joined xs ys) ≡ exit_actions maps ys
joined_exits [] xs ys e f = refl
joined_exits (m ∷ maps) [] [] e f = refl
joined_exits (m ∷ maps) [] (y ∷ ys) e f = absurd cc
joined_exits (m ∷ maps) (x ∷ xs) [] e f = absurd cc
joined_exits (m ∷ maps) (x ∷ xs) (y ∷ ys) e f =
    let block : y.block ≡ x.block = cc in
    let rest : y.rests ≡ x.rests = cc in
    let blocks : map block_named ys ≡ map block_named xs = cc in
    let rests : map resting ys ≡ map resting xs = cc in
    (λ i. (Counts (sym block i) (sym rest i)
    ∷ (only_if y.copies_out (CopiesOut m.section) ++ only_if y.removes (Removes (sym block i))))
    ++ joined_exits maps xs ys blocks rests i)

-- the entries, the region's actions, the exits of a target
target_actions : (maps : List MapItem) (blocks : List Block) (region : List Action) →
    meets_badly Target (entry_mets maps blocks ++ exit_mets maps (entries_after maps blocks)) ≡ false → KeepsBlocks maps blocks →
    ((each_acts (entry_acts (rests blocks)) maps blocks).actions ++ region)
    ++ (each_acts (exit_acts (rests blocks)) maps (each_acts (entry_acts (rests blocks)) maps blocks).blocks).actions
    ≡ (entry_actions maps (joined (entry_row (rests blocks) maps blocks) (exit_row (rests blocks) maps (entries_after maps blocks)))
    ++ region)
    ++ exit_actions maps (joined (entry_row (rests blocks) maps blocks) (exit_row (rests blocks) maps (entries_after maps blocks)))
target_actions maps blocks region h keeps =
    let f = rests blocks in
    let later = entries_after maps blocks in
    let er = entry_row f maps blocks in
    let xr = exit_row f maps later in
    let apart = sym (list_any-append (λ (m : Met). in_part (met_at m) || is_missing m) (entry_mets maps blocks)
    (exit_mets maps later)) ∙ h in
    let first : meets_badly Target (entry_mets maps blocks) ≡ false =
    (or_parts _ (meets_badly Target (exit_mets maps later)) apart).0 in
    let second : meets_in_part (exit_mets maps later) ≡ false =
    in_part_alone Target (exit_mets maps later) (or_parts (meets_badly Target (entry_mets maps blocks)) _ apart).1 in
    ap (λ xs. (xs ++ region) ++ (each_acts (exit_acts f) maps (each_acts (entry_acts f) maps blocks).blocks).actions)
    (each_entered f maps blocks first ∙ sym (joined_entries maps er xr))
    ∙ ap (λ bs. (entry_actions maps (joined er xr) ++ region) ++ (each_acts (exit_acts f) maps bs).actions)
    (all_entered f maps blocks).blocks_after
    ∙ ap (λ ys. (entry_actions maps (joined er xr) ++ region) ++ ys)
    (each_left f maps later second
    ∙ sym (joined_exits maps er xr keeps (exit_rests f maps later second ∙ sym (entry_rests f maps blocks first))))

law_of : (kind : ItemKind) (p : Place) (d : Bool) (e : ℕ) (maps : List MapItem) (ds : List Depend) (region : Option Region)
    (loops : List ℕ) (blocks : List Block) →
    let w : Work = work_of kind p d e maps ds region loops in
    meets_badly kind (acts_of w blocks).met ≡ false → (kind ≡ Target → KeepsBlocks maps blocks) →
    (acts_of w blocks).actions ≡ actions_of w (acts_row w blocks)
law_of Host p d e maps ds None loops blocks h keeps = refl
law_of Host p d e maps ds (Some r) loops blocks h keeps = refl
law_of Target p d e maps ds None loops blocks h keeps =
    target_actions maps blocks []
    (ap (meets_badly Target) (sym (target_met maps blocks [])) ∙ h) (keeps refl)
law_of Target p d e maps ds (Some r) loops blocks h keeps =
    target_actions maps blocks (Kernel (touches_of r loops) ∷ [])
    (ap (meets_badly Target) (sym (target_met maps blocks [])) ∙ h) (keeps refl)
law_of Begin p d e maps ds region loops blocks h keeps =
    each_entered always_works maps blocks (ap (meets_badly Target) (sym (all_entered always_works maps blocks).met) ∙ h)
law_of Enter p d e maps ds region loops blocks h keeps =
    each_entered always_works maps blocks (ap (meets_badly Target) (sym (all_entered always_works maps blocks).met) ∙ h)
law_of End p d e maps ds region loops blocks h keeps =
    each_left always_works maps blocks (in_part_alone Exit (exit_mets maps blocks)
    (ap (meets_badly Exit) (sym (all_left always_works maps blocks).met) ∙ h))
law_of Exit p d e maps ds region loops blocks h keeps =
    each_left always_works maps blocks (in_part_alone Exit (exit_mets maps blocks)
    (ap (meets_badly Exit) (sym (all_left always_works maps blocks).met) ∙ h))
law_of Update p d e maps ds region loops blocks h keeps =
    each_updated maps blocks (in_part_alone Update (update_mets maps blocks)
    (ap (meets_badly Update) (sym (all_updated maps blocks).met) ∙ h))
law_of Wait p d e maps ds region loops blocks h keeps = refl

pub acts_are_actions : ActsAreActions
acts_are_actions w blocks h keeps = law_of w.kind w.place w.deferred w.device w.maps w.depends w.region w.loops blocks h keeps
