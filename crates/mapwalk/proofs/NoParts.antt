-- Where no overlap in part has a cell, no map item meets a block in part.
use Rattle.std.proofs.Common.{◌≡◌, ℕ, ◌+◌, ◌<◌, ◌≤◌, max, Bool, true, false, ◌==◌, List, [], ◌∷◌, ◌++◌, ◌⊎◌, inl, inr, map, Option, Some, None, refl, sym, ap, ◌∙◌, subst, arith, true≢false}
use Rattle.std.specs.Prelude.{find, filter, not, ◌&&◌, ◌||◌, nat_lt, if◌then◌else◌}
use Rattle.std.specs.List.{list_any}
use Rattle.std.proofs.lemmas.Bool.{cases_Bool, cond-true, cond-false, and_from, eqb-true, eq-eqb, ltb-true, lt-ltb, le-leb, or_right, or_left, and_parts, or_parts, or_from}
use Rattle.std.proofs.Math.Bool.{and-true}
use Rattle.std.proofs.lemmas.Option.{same_Some}
use Rattle.base.specs.declared.item.Cell.{Cell}
use Rattle.base.specs.declared.item.MapItem.{MapItem}
use Rattle.base.specs.declared.item.ItemKind.{ItemKind}
use Rattle.base.specs.declared.item.ItemKind.TheVariants.{Host, Target, Begin, End, Enter, Exit, Update, Wait}
use Rattle.base.specs.declared.item.Section.{Section}
use Rattle.base.specs.Memory.{end_of, is_in, overlaps, same_section}
use Rattle.base.specs.Map.{Block, Presence, Absent, Inside, InPart, blocks_after, counted, entry, exit, exit_count, presence, without}
use Rattle.base.specs.Actions.{Met}
use Rattle.base.specs.Accepted.{first_cell, in_part, is_absent as absent, is_exit, met_at}
use Rattle.mapwalk.specs.Acts.{entries_after, exits_after}
use Rattle.mapwalk.specs.Causes.{is_missing_cell, is_part_cell}
use Rattle.mapwalk.specs.Kinds.{after_maps, met_by}
use Rattle.mapwalk.specs.Laws.{AllWide, is_missing, meets_badly}
use Rattle.mapwalk.specs.Seen.{entry_mets, exit_mets, update_mets}
use Rattle.base.proofs.Moves.{is_absent}
use Rattle.mapwalk.proofs.Leasts.{first_of, itself}
use Rattle.mapwalk.proofs.HeldBlocks.{find_passes, held, no_block, section_counted}
use Rattle.base.proofs.Blocks.{find_yes, find_no, meets}

-- each block has a cell
abbrev pub BlocksWide : List Block → Type 0
BlocksWide [] = Unit {0}
BlocksWide (b ∷ blocks) = (0 < b.section.length) × BlocksWide blocks

wide_counted : (s : Section) (n : ℕ) (blocks : List Block) → BlocksWide blocks → BlocksWide (map (counted s n) blocks)
wide_counted s n [] h = tt
wide_counted s n (b ∷ blocks) h =
    (subst (λ (t : Section). 0 < t.length) (sym (section_counted s n b)) h.0, wide_counted s n blocks h.1)

wide_added : (blocks : List Block) (b : Block) → BlocksWide blocks → 0 < b.section.length → BlocksWide (blocks ++ b ∷ [])
wide_added [] b h k = (k, tt)
wide_added (x ∷ blocks) b h k = (h.0, wide_added blocks b h.1 k)

wide_filtered : (q : Block → Bool) (blocks : List Block) → BlocksWide blocks → BlocksWide (filter q blocks)
wide_filtered q [] h = tt
wide_filtered q (b ∷ blocks) h = go (wide_filtered q blocks h.1) (cases_Bool (q b))
  where
    go : BlocksWide (filter q blocks) → (q b ≡ true) ⊎ (q b ≡ false) → BlocksWide (filter q (b ∷ blocks))
    go rest (inl t) = subst BlocksWide (sym (cond-true (q b) (b ∷ filter q blocks) (filter q blocks) t)) (h.0, rest)
    go rest (inr t) = subst BlocksWide (sym (cond-false (q b) (b ∷ filter q blocks) (filter q blocks) t)) rest

wide_entered : (m : MapItem) (blocks : List Block) → 0 < m.section.length → BlocksWide blocks →
    BlocksWide (blocks_after blocks (entry m blocks))
wide_entered m blocks long h = go (presence blocks m.section) refl
  where
    go : (p : Presence) → presence blocks m.section ≡ p → BlocksWide (blocks_after blocks (entry m blocks))
    go Absent e = absent m.present refl
      where
        absent : (b : Bool) → m.present ≡ b → BlocksWide (blocks_after blocks (entry m blocks))
        absent true p = rw (e, p) h
        absent false p = rw (e, p) (wide_added blocks (record { section = m.section; count = 1 }) h long)
    go (Inside b) e = rw e (wide_counted b.section (b.count + 1) blocks h)
    go InPart e = rw e h

wide_left : (m : MapItem) (blocks : List Block) → BlocksWide blocks → BlocksWide (blocks_after blocks (exit m blocks))
wide_left m blocks h = go (presence blocks m.section) refl
  where
    inner : (b : Block) (n : ℕ) → ((n == 0) ≡ true) ⊎ ((n == 0) ≡ false) →
        BlocksWide (if n == 0 then without blocks b.section else map (counted b.section n) blocks)
    inner b n (inl t) = subst BlocksWide (sym (cond-true (n == 0) (without blocks b.section) (map (counted b.section n) blocks) t))
        (wide_filtered (λ x. not (same_section x.section b.section)) blocks h)
    inner b n (inr t) = subst BlocksWide (sym (cond-false (n == 0) (without blocks b.section) (map (counted b.section n) blocks) t))
        (wide_counted b.section n blocks h)

    go : (p : Presence) → presence blocks m.section ≡ p → BlocksWide (blocks_after blocks (exit m blocks))
    go Absent e = rw e h
    go (Inside b) e = rw e (inner b (exit_count m.kind b.count) (cases_Bool (exit_count m.kind b.count == 0)))
    go InPart e = rw e h

-- each met section, and each block that it meets, has a cell
abbrev MetsWide : List Met → Type 0
MetsWide [] = Unit {0}
MetsWide (m ∷ mets) = ((0 < m.item.section.length) × BlocksWide m.blocks) × MetsWide mets

wide_append : (xs ys : List Met) → MetsWide xs → MetsWide ys → MetsWide (xs ++ ys)
wide_append [] ys h k = k
wide_append (x ∷ xs) ys h k = (h.0, wide_append xs ys h.1 k)

entries_wide : (maps : List MapItem) (blocks : List Block) → AllWide maps → BlocksWide blocks →
    MetsWide (entry_mets maps blocks) × BlocksWide (entries_after maps blocks)
entries_wide [] blocks wide h = (tt, h)
entries_wide (m ∷ maps) blocks wide h =
    let rest = entries_wide maps (blocks_after blocks (entry m blocks)) wide.1 (wide_entered m blocks wide.0 h) in
    (((wide.0, h), rest.0), rest.1)

exits_wide : (maps : List MapItem) (blocks : List Block) → AllWide maps → BlocksWide blocks →
    MetsWide (exit_mets maps blocks) × BlocksWide (exits_after maps blocks)
exits_wide [] blocks wide h = (tt, h)
exits_wide (m ∷ maps) blocks wide h =
    let rest = exits_wide maps (blocks_after blocks (exit m blocks)) wide.1 (wide_left m blocks h) in
    (((wide.0, h), rest.0), rest.1)

updates_wide : (maps : List MapItem) (blocks : List Block) → AllWide maps → BlocksWide blocks → MetsWide (update_mets maps blocks)
updates_wide [] blocks wide h = tt
updates_wide (m ∷ maps) blocks wide h = ((wide.0, h), updates_wide maps blocks wide.1 h)

pub mets_wide : (kind : ItemKind) (maps : List MapItem) (blocks : List Block) → AllWide maps → BlocksWide blocks →
    MetsWide (met_by kind maps blocks) × BlocksWide (after_maps kind maps blocks)
mets_wide Host maps blocks wide h = (tt, h)
mets_wide Target maps blocks wide h =
    let first = entries_wide maps blocks wide h in
    let second = exits_wide maps (entries_after maps blocks) wide first.1 in
    (wide_append (entry_mets maps blocks) (exit_mets maps (entries_after maps blocks)) first.0 second.0, second.1)
mets_wide Begin maps blocks wide h = entries_wide maps blocks wide h
mets_wide Enter maps blocks wide h = entries_wide maps blocks wide h
mets_wide End maps blocks wide h = exits_wide maps blocks wide h
mets_wide Exit maps blocks wide h = exits_wide maps blocks wide h
mets_wide Update maps blocks wide h = (updates_wide maps blocks wide h, h)
mets_wide Wait maps blocks wide h = (tt, h)

wide_found : (p : Block → Bool) (blocks : List Block) (b : Block) → BlocksWide blocks → find p blocks ≡ Some b → 0 < b.section.length
wide_found p [] b h e = no_block b e
wide_found p (x ∷ blocks) b h e = go (wide_found p blocks b h.1) (cases_Bool (p x))
  where
    go : (find p blocks ≡ Some b → 0 < b.section.length) → (p x ≡ true) ⊎ (p x ≡ false) → 0 < b.section.length
    go again (inl t) = subst (λ (y : Block). 0 < y.section.length) (same_Some x b (sym (find_yes p x blocks t) ∙ e)) h.0
    go again (inr t) = again (sym (find_no p x blocks t) ∙ e)

any_found : (p q : Block → Bool) (blocks : List Block) (b : Block) → find p blocks ≡ Some b → q b ≡ true → list_any q blocks ≡ true
any_found p q [] b e h = no_block b e
any_found p q (x ∷ blocks) b e h = go (λ f. any_found p q blocks b f h) (cases_Bool (p x))
  where
    go : (find p blocks ≡ Some b → list_any q blocks ≡ true) → (p x ≡ true) ⊎ (p x ≡ false) → (q x || list_any q blocks) ≡ true
    go again (inl t) = or_left (q x) (list_any q blocks) (ap q (same_Some x b (sym (find_yes p x blocks t) ∙ e)) ∙ h)
    go again (inr t) = or_right (q x) (list_any q blocks) (again (sym (find_no p x blocks t) ∙ e))

shared_cell : (s t : Section) → 0 < s.length → 0 < t.length → overlaps t s ≡ true →
    (is_in (first_of s t) s ≡ true) × (is_in (first_of s t) t ≡ true)
shared_cell s t long other o =
    let array : t.array.0 ≡ s.array.0 = eqb-true t.array.0 s.array.0
    (and_parts _ (nat_lt t.first (end_of s) && nat_lt s.first (end_of t)) o).0 in
    let rest = (and_parts (t.array.0 == s.array.0) _ o).1 in
    let below : t.first < end_of s = ltb-true t.first (end_of s) (and_parts _ (nat_lt s.first (end_of t)) rest).0 in
    let above : s.first < end_of t = ltb-true s.first (end_of t) (and_parts (nat_lt t.first (end_of s)) _ rest).1 in
    let k = max s.first t.first in
    let a : s.first ≤ k = omega arith in
    let b : k < end_of s = omega arith in
    let c : t.first ≤ k = omega arith in
    let d : k < end_of t = omega arith in (
      and_from _ _ (eq-eqb s.array.0 s.array.0 refl) (and_from _ _ (le-leb s.first k a) (lt-ltb k (end_of s) b)),
      and_from _ _ (eq-eqb s.array.0 t.array.0 (sym array)) (and_from _ _ (le-leb t.first k c) (lt-ltb k (end_of t) d)),
    )

-- a section that meets a block in part shares a cell with it
part_cell : (m : Met) → 0 < m.item.section.length → BlocksWide m.blocks → ((c : Cell) → is_part_cell c m ≡ false) →
    in_part (met_at m) ≡ false
part_cell m long wide none = go (held m.item.section m.blocks) refl
  where
    inner : (b : Block) → held m.item.section m.blocks ≡ Some b →
        (in_part (met_at m) ≡ true) ⊎ (in_part (met_at m) ≡ false) → in_part (met_at m) ≡ false
    inner b e (inr t) = t
    inner b e (inl t) =
        let both = shared_cell m.item.section b.section long (wide_found (meets m.item.section) m.blocks b wide e)
        (find_passes (meets m.item.section) m.blocks b e) in
        let c = first_of m.item.section b.section in
        let held_there = any_found (meets m.item.section) (λ x. is_in c x.section) m.blocks b e both.1 in
        absurd (true≢false (sym (and_from _ _ t (and_from _ _ both.0 held_there)) ∙ none c))

    go : (o : Option Block) → held m.item.section m.blocks ≡ o → in_part (met_at m) ≡ false
    go None e = ap in_part (is_absent m.blocks m.item.section e)
    go (Some b) e = inner b e (cases_Bool (in_part (met_at m)))

-- a missing section has a first cell
not_missing : (m : Met) → ((c : Cell) → is_missing_cell c m ≡ false) → is_missing m ≡ false
not_missing m none =
    let c = first_cell m.item.section in
    ap (λ b. m.item.present && b) (sym (ap (λ b. absent (met_at m) && b) (itself c) ∙ and-true (absent (met_at m))))
    ∙ none c

pub not_bad : (kind : ItemKind) (mets : List Met) → MetsWide mets → ((c : Cell) → list_any (is_part_cell c) mets ≡ false) →
    ((c : Cell) → (not (is_exit kind) && list_any (is_missing_cell c) mets) ≡ false) → meets_badly kind mets ≡ false
not_bad kind [] wide none least = refl
not_bad kind (m ∷ mets) wide none least =
    or_from (in_part (met_at m) || (not (is_exit kind) && is_missing m)) (meets_badly kind mets)
    (or_from (in_part (met_at m)) (not (is_exit kind) && is_missing m)
    (part_cell m wide.0.0 wide.0.1 (λ c. (or_parts (is_part_cell c m) (list_any (is_part_cell c) mets) (none c)).0))
    (go (not (is_exit kind)) least))
    (not_bad kind mets wide.1 (λ c. (or_parts (is_part_cell c m) (list_any (is_part_cell c) mets) (none c)).1)
    (λ c. later (not (is_exit kind)) c (least c)))
  where
    go : (b : Bool) → ((c : Cell) → (b && (is_missing_cell c m || list_any (is_missing_cell c) mets)) ≡ false) →
        (b && is_missing m) ≡ false
    go false h = refl
    go true h = not_missing m (λ c. (or_parts (is_missing_cell c m) (list_any (is_missing_cell c) mets) (h c)).0)

    later : (b : Bool) (c : Cell) → (b && (is_missing_cell c m || list_any (is_missing_cell c) mets)) ≡ false →
        (b && list_any (is_missing_cell c) mets) ≡ false
    later false c h = refl
    later true c h = (or_parts (is_missing_cell c m) (list_any (is_missing_cell c) mets) h).1
