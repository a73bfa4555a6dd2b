-- What an entry creates, told by which cells have a block.
use Rattle.std.proofs.Common.{◌≡◌, ◌⊎◌, ℕ, ◌+◌, ◌<◌, length, drop, get_or, not, Bool, true, false, ◌||◌, List, [], ◌∷◌, ◌++◌, map, Option, Some, None, refl, sym, ◌∙◌, ap, inl, inr, true≢false, subst, arith, add-one, drop-cons}
use Rattle.std.specs.Prelude.{is_some, option_map, find}
use Rattle.std.proofs.lemmas.Bool.{cases_Bool, cond-true, cond-false, or_left, or_right, or_from}
use Rattle.base.specs.declared.item.Cell.{Cell}
use Rattle.base.specs.declared.item.Section.{Section}
use Rattle.base.specs.declared.item.MapItem.{MapItem}
use Rattle.base.specs.Memory.{is_in, is_inside, overlaps}
use Rattle.base.specs.Map.{Block as Present, Device, Presence, Absent, Inside, InPart, presence, counted, entry, created, blocks_after, need}
use Rattle.present.specs.declared.Table.{Table}
use Rattle.present.specs.declared.block.Block.{Block}
use Rattle.present.specs.Blocks.{IsSection, present, stored_at}
use Rattle.base.specs.Blocks.{holder}
use Rattle.present.specs.Table.{Shows}
use Rattle.present.specs.Needed.{Covers, Meets, Takes, IsMetOr, IsFreeOr, IsNewOr, IsNumber, Needs, in_one, is_taken}
use Rattle.base.proofs.Sections.{common}
use Rattle.present.proofs.Finds.{find_yes, find_no}
use Rattle.base.proofs.Blocks.{meets, judge, presence_is, absent_from, holder_absent, holder_counted, holder_some, holder_none, counted_apart, more_apart}
use Rattle.base.proofs.Moves.{is_absent, entry_absent, entry_missing, entry_there, entry_part}

none_of : {A : Type 0} (o : Option A) → is_some o ≡ false → o ≡ None
none_of None e = refl
none_of (Some x) e = absurd (true≢false e)

some_of : {A : Type 0} (o : Option A) → o ≡ None → is_some o ≡ true → ⊥
some_of o e h = true≢false (sym h ∙ ap is_some e)

-- one of the sections, or a later one

pub met_first : (first : Section) (rest : List Section) (s : Section) → IsSection first → IsSection s →
    overlaps first s ≡ true → Meets (first ∷ rest) s
met_first first rest s v w e =
    let x = common first s v.has_cells w.has_cells e in
    record { cell = x.0; inside = x.2; met = or_left (is_in x.0 first) (in_one rest x.0) x.1 }

-- nothing is found where a section is absent
pub absent_found : (blocks : List Present) (s : Section) → presence blocks s ≡ Absent → find (meets s) blocks ≡ None
absent_found blocks s e = go (find (meets s) blocks) refl
  where
    judged : (b : Present) (t : Bool) → is_inside s b.section ≡ t → judge s (Some b) ≡ Absent → ⊥
    judged b true i f = absurd (cc (sym (cond-true (is_inside s b.section) (Inside b) InPart i) ∙ f))
    judged b false i f = absurd (cc (sym (cond-false (is_inside s b.section) (Inside b) InPart i) ∙ f))

    go : (o : Option Present) → find (meets s) blocks ≡ o → find (meets s) blocks ≡ None
    go None f = f
    go (Some b) f =
        absurd (judged b (is_inside s b.section) refl (sym (ap (judge s) f) ∙ (sym (presence_is blocks s) ∙ e)))

module _ (t : Table) (sections : List Section) (item : MapItem) (w : IsSection item.section) (blocks : List Present)
    (h : Covers t sections blocks) where
  -- a free section is created
  free_absent : IsFreeOr t sections item.section true → presence blocks item.section ≡ Absent
  free_absent f =
      is_absent blocks item.section
      (absent_from blocks item.section h.apart w.has_cells
      (λ c i. none_of (holder blocks c) (h.held c ∙ f c i)))

  free_held : IsFreeOr t sections item.section true → (c : Cell) →
      is_some (holder (blocks ++ record { section = item.section; count = 1 } ∷ []) c) ≡ is_taken t
      (item.section ∷ sections) c
  free_held f c = go (cases_Bool (is_in c item.section))
    where
      old : (o : Option Present) → holder blocks c ≡ o → is_in c item.section ≡ false →
          is_some (holder (blocks ++ record { section = item.section; count = 1 } ∷ []) c) ≡ is_some o
      old None e i =
          ap is_some (holder_none blocks (record { section = item.section; count = 1 }) c e
          ∙ find_no (λ (b : Present). is_in c b.section) (record { section = item.section; count = 1 }) [] i)
      old (Some b) e i = ap is_some (holder_some blocks (record { section = item.section; count = 1 }) c b e)

      go : (is_in c item.section ≡ true) ⊎ (is_in c item.section ≡ false) →
          is_some (holder (blocks ++ record { section = item.section; count = 1 } ∷ []) c) ≡ is_taken t
          (item.section ∷ sections) c
      go (inl i) =
          ap is_some (holder_none blocks (record { section = item.section; count = 1 }) c (none_of (holder blocks c)
          (h.held c ∙ f c i))
          ∙ find_yes (λ (b : Present). is_in c b.section) (record { section = item.section; count = 1 }) [] i)
          ∙ sym (or_right (is_some (stored_at t.blocks.items c)) (in_one (item.section ∷ sections) c)
          (or_left (is_in c item.section) (in_one sections c) i))
      go (inr i) =
          old (holder blocks c) refl i ∙ h.held c
          ∙ ap (λ b. is_some (stored_at t.blocks.items c) || (b || in_one sections c)) (sym i)

  pub free_covers : item.present ≡ false → IsFreeOr t sections item.section true →
      Covers t (item.section ∷ sections) (blocks_after blocks (entry item blocks))
  free_covers p f =
      subst (λ o. Covers t (item.section ∷ sections) (blocks_after blocks o)) (sym (entry_absent item blocks
      (free_absent f) p))
      (record {
        apart = more_apart blocks (record { section = item.section; count = 1 }) h.apart w.has_cells
            (λ c i. none_of (holder blocks c) (h.held c ∙ f c i));
        held = free_held f;
      })

  pub free_created : item.present ≡ false → IsFreeOr t sections item.section true →
      created (entry item blocks) ≡ item.section.length
  free_created p f = ap created (entry_absent item blocks (free_absent f) p)

  -- no other entry creates cells

  counted_held : (s : Section) (n : ℕ) (c : Cell) →
      is_some (holder (map (counted s n) blocks) c) ≡ is_taken t sections c
  counted_held s n c = ap is_some (holder_counted blocks s n c) ∙ same (holder blocks c) ∙ h.held c
    where
      same : (o : Option Present) → is_some (option_map (counted s n) o) ≡ is_some o
      same None = refl
      same (Some b) = refl

  refused_keeps : entry item blocks ≡ None →
      Covers t sections (blocks_after blocks (entry item blocks)) × (created (entry item blocks) ≡ 0)
  refused_keeps e = (subst (λ o. Covers t sections (blocks_after blocks o)) (sym e) h, ap created e)

  pub old_keeps : IsNewOr t sections item false →
      Covers t sections (blocks_after blocks (entry item blocks)) × (created (entry item blocks) ≡ 0)
  old_keeps old = go (presence blocks item.section) refl
    where
      missing : presence blocks item.section ≡ Absent → IsNewOr t sections item false → entry item blocks ≡ None
      missing e (inl p) = entry_missing item blocks e p
      missing e (inr k) =
          absurd (some_of (holder blocks k.cell)
          (holder_absent blocks item.section k.cell (absent_found blocks item.section e) k.inside) (h.held k.cell
          ∙ k.taken))

      go : (p : Presence) → presence blocks item.section ≡ p →
          Covers t sections (blocks_after blocks (entry item blocks)) × (created (entry item blocks) ≡ 0)
      go Absent e = refused_keeps (missing e old)
      go (Inside b) e = (
        subst (λ o. Covers t sections (blocks_after blocks o)) (sym (entry_there item blocks b e)) (record {
          apart = counted_apart blocks b.section (b.count + 1) h.apart;
          held = counted_held b.section (b.count + 1);
        }),
        ap created (entry_there item blocks b e),
      )
      go InPart e = refused_keeps (entry_part item blocks e)

-- The answers.

pub free_or : (t : Table) (sections : List Section) (s : Section) (b : Bool) → IsMetOr sections s b →
    ((c : Cell) → is_in c s ≡ true → stored_at t.blocks.items c ≡ None) → IsFreeOr t sections s (not b)
free_or t sections s true h none = record {
  cell = h.cell;
  inside = h.inside;
  taken = or_right (is_some (stored_at t.blocks.items h.cell)) (in_one sections h.cell) h.met;
}
free_or t sections s false h none =
    λ c i. or_from (is_some (stored_at t.blocks.items c)) (in_one sections c) (ap is_some (none c i)) (h c i)

pub takes_at : (t : Table) (sections : List Section) (s : Section) (c : Cell) (b : Block) →
    stored_at t.blocks.items c ≡ Some b →
    is_in c s ≡ true → Takes t sections s
takes_at t sections s c b e i = record {
  cell = c;
  inside = i;
  taken = or_left (is_some (stored_at t.blocks.items c)) (in_one sections c) (ap is_some e);
}

pub drop_item : {A : Type 0} (xs : List A) (i : ℕ) (d : A) → i < length xs →
    drop i xs ≡ get_or xs i d ∷ drop (i + 1) xs
drop_item xs i d h = rw (add-one, drop-cons xs i d)

module _ (t : Table) (sections : List Section) (item : MapItem) (rest : List MapItem)
    (w : IsSection item.section) where
  pub needs_new : IsNewOr t sections item true → (r : Option ℕ) → Needs t (item.section ∷ sections) rest r →
      (blocks : List Present) → Covers t sections blocks →
      (n : ℕ) × (IsNumber n r) × (need (item ∷ rest) blocks ≡ item.section.length + n)
  needs_new f r h blocks k = (
    need rest (blocks_after blocks (entry item blocks)),
    h (blocks_after blocks (entry item blocks)) (free_covers t sections item w blocks k f.0 f.1),
    ap (λ n. n + need rest (blocks_after blocks (entry item blocks))) (free_created t sections item w blocks k f.0 f.1),
  )

  pub needs_old : IsNewOr t sections item false → (r : Option ℕ) → Needs t sections rest r →
      Needs t sections (item ∷ rest) r
  needs_old f r h blocks k =
      let keeps = old_keeps t sections item w blocks k f in
      let e : need rest (blocks_after blocks (entry item blocks)) ≡ need (item ∷ rest) blocks =
      omega (arith, keeps.1) in
      subst (λ n. IsNumber n r) e (h (blocks_after blocks (entry item blocks)) keeps.0)

-- no blocks beside the table's
pub shown_covers : (t : Table) (d : Device) → Shows t d → Covers t [] d.blocks
shown_covers t d sh = record {
  apart = sh.apart;
  held = λ c. ap is_some (sh.blocks c) ∙ same (stored_at t.blocks.items c);
}
  where
    same : (o : Option Block) → is_some (option_map present o) ≡ (is_some o || false)
    same None = refl
    same (Some b) = refl
