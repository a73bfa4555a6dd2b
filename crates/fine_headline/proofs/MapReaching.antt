-- An entry, an exit or an update done action by action does what it does whole, where its cells have storage.
use Rattle.std.proofs.Common.{◌≡◌, ◌⊎◌, ℕ, ◌==◌, Bool, true, false, not, List, [], ◌∷◌, map, Some, None, refl, sym, ◌∙◌, ap, ap₂, inl, inr, subst}
use Rattle.std.specs.Prelude.{option_map, find, if◌then◌else◌}
use Rattle.std.proofs.lemmas.Bool.{cases_Bool, cond-true, cond-false}
use Rattle.std.proofs.lemmas.Option.{same_Some, none-some}
use Rattle.base.specs.declared.item.MapItem.{MapItem}
use Rattle.base.specs.declared.item.Section.{Section}
use Rattle.base.specs.Memory.{is_inside, same_section, overlaps}
use Rattle.base.specs.Map.{Block, Memories, Fill, Move, Absent, Inside, presence, entry, exit, enter, leave, update, exit_count, exit_copies, counted, without, when, with_blocks, with_cells, copy_in, copy_out, copies_to, copies_from}
use Rattle.base.proofs.Blocks.{meets, find_yes, find_no}
use Rattle.base.proofs.Moves.{created_move, raised_move, lowered_move, ignored_move, entry_absent, entry_there, entry_part, exit_absent, exit_there, exit_part, is_there}
use Rattle.base.proofs.Sections.{same_parts}
use Rattle.fine_machine.specs.Left.{Left, Asks, Enter, Leave, Remove, CopyIn, CopyOut, left_if, section_left, entry_left, exit_left, update_left}
use Rattle.fine_machine.specs.Action.{decided, loaded, lowered, removed}
use Rattle.two_memories.proofs.MapMoves.{within_yes, entered_free}
use Rattle.fine_headline.proofs.Acting.{Lies, lies}
use Rattle.fine_headline.proofs.Acting.Lies.{nowhere, inside, in_part}
use Rattle.fine_headline.proofs.Reaching.{Reaches, there, next, on_from}
use Rattle.fine_headline.proofs.Copying.{HasStorage, copies_in, copies_out}

module _ (lengths : List ℕ) (fill : Fill) where
  abbrev Rest : Type 0
  Rest = Unit {0} → Left

  in_if : (b : Bool) (s : Section) (m : Memories) (k : Rest) → HasStorage s m →
      Reaches lengths fill (left_if b (section_left CopyIn s) k) m (k tt) (when b (copy_in s) m)
  in_if true s m k h = copies_in lengths fill s.length s.array s.first m k h
  in_if false s m k h = there (k tt) m

  out_if : (b : Bool) (s : Section) (m : Memories) (k : Rest) → HasStorage s m →
      Reaches lengths fill (left_if b (section_left CopyOut s) k) m (k tt) (when b (copy_out s) m)
  out_if true s m k h = copies_out lengths fill s.length s.array s.first m k h
  out_if false s m k h = there (k tt) m

  pub entry_reaches : (item : MapItem) (m m' : Memories) (k : Unit {0} → Left) →
      ((b : Block) → presence m.device.blocks item.section ≡ Inside b → HasStorage item.section m) →
      enter fill item m ≡ Some m' → Reaches lengths fill (entry_left item k) m (k tt) m'
  entry_reaches item m m' k covered h = go (lies m.device.blocks item.section)
    where
      table : Move → Memories
      table move = when move.changes (with_cells (λ c. Some (fill c)) move.block) (with_blocks move.blocks m)

      by : (move : Move) → entry item m.device.blocks ≡ Some move →
          HasStorage item.section (when move.changes (with_cells (λ c. Some (fill c)) move.block)
          (with_blocks move.blocks m)) → Reaches lengths fill (entry_left item k) m (k tt) m'
      by move e s =
          subst (λ x. Reaches lengths fill (entry_left item k) m (k tt) x)
          (same_Some (when move.copies (copy_in item.section) (table move)) m'
          (sym (ap (option_map (λ move. when move.copies (copy_in item.section)
          (when move.changes (with_cells (λ c. Some (fill c)) move.block) (with_blocks move.blocks m)))) e) ∙ h))
          (next (Enter item) (λ r. left_if r.copies (section_left CopyIn item.section) k) (decided move.copies false) m
          (table move) (k tt) (when move.copies (copy_in item.section) (table move))
          (ap (option_map (λ move. (
            decided move.copies false,
            when move.changes
                (with_cells (λ c. Some (fill c)) move.block) (with_blocks move.blocks m),
          ))) e)
          (in_if move.copies item.section (table move) k s))

      go : Lies m.device.blocks item.section → Reaches lengths fill (entry_left item k) m (k tt) m'
      go (nowhere e free) =
          by (created_move item m.device.blocks) (entry_absent item m.device.blocks e (entered_free fill item m m' e h))
          (λ c i. (fill c, within_yes item.section (λ c. Some (fill c)) m.device.cells c i))
      go (inside b e _ _) = by (raised_move item b m.device.blocks) (entry_there item m.device.blocks b e) (covered b e)
      go (in_part e) =
          absurd (none-some m' (sym (ap (option_map (λ move. when move.copies (copy_in item.section) (when move.changes
          (with_cells (λ c. Some (fill c)) move.block) (with_blocks move.blocks m))))
          (entry_part item m.device.blocks e)) ∙ h))

  pub update_reaches : (item : MapItem) (m : Memories) (k : Unit {0} → Left) (b : Block) → HasStorage item.section m →
      presence m.device.blocks item.section ≡ Inside b → (n : Memories) → update item m ≡ Some n →
      Reaches lengths fill (update_left item k) m (k tt) n
  update_reaches item m k b h e n g =
      subst (λ x. Reaches lengths fill (update_left item k) m (k tt) x) (same_Some _ n (sym is ∙ g))
      (on_from lengths fill (update_left item k) m
      (left_if (copies_from item.kind) (section_left CopyOut item.section) k)
      (when (copies_to item.kind) (copy_in item.section) m) (k tt)
      (when (copies_from item.kind) (copy_out item.section) (when (copies_to item.kind) (copy_in item.section) m))
      (in_if (copies_to item.kind) item.section m
      (λ u. left_if (copies_from item.kind) (section_left CopyOut item.section) k) h)
      (out_if (copies_from item.kind) item.section (when (copies_to item.kind) (copy_in item.section) m) k
      (stored (copies_to item.kind))))
    where
      is : update item m ≡ Some (when (copies_from item.kind) (copy_out item.section)
          (when (copies_to item.kind) (copy_in item.section) m))
      is = rw (e, update) refl

      stored : (x : Bool) → HasStorage item.section (when x (copy_in item.section) m)
      stored true c i = (m.host c, within_yes item.section (λ c. Some (m.host c)) m.device.cells c i)
      stored false c i = h c i

-- A block whose count becomes 0 and that is then removed.

pub counted_section : (s : Section) (n : ℕ) (b : Block) → (counted s n b).section ≡ b.section
counted_section s n b = go (cases_Bool (same_section b.section s))
  where
    go : (same_section b.section s ≡ true) ⊎ (same_section b.section s ≡ false) → (counted s n b).section ≡ b.section
    go (inl e) =
        let p = same_parts b.section s e in
        ap (λ (x : Block). x.section) (cond-true (same_section b.section s) (record { section = s; count = n }) b e)
        ∙ sym (ap₂ (λ x y. record { array = record { 0 = x }; first = y; length = b.section.length }) p.array p.first
        ∙ ap (λ l. record { array = s.array; first = s.first; length = l }) p.length)
    go (inr e) =
        ap (λ (x : Block). x.section) (cond-false (same_section b.section s) (record { section = s; count = n }) b e)

pub found_counted : (blocks : List Block) (s t : Section) (n : ℕ) (b : Block) → find (meets t) blocks ≡ Some b →
    find (meets t) (map (counted s n) blocks) ≡ Some (counted s n b)
found_counted [] s t n b h = absurd (none-some b h)
found_counted (x ∷ rest) s t n b h = go (found_counted rest s t n b) (cases_Bool (meets t x))
  where
    same : meets t (counted s n x) ≡ meets t x
    same = ap (λ y. overlaps y t) (counted_section s n x)

    go : (find (meets t) rest ≡ Some b → find (meets t) (map (counted s n) rest) ≡ Some (counted s n b)) →
        (meets t x ≡ true) ⊎ (meets t x ≡ false) → find (meets t) (map (counted s n) (x ∷ rest)) ≡ Some (counted s n b)
    go again (inl e) =
        find_yes (meets t) (counted s n x) (map (counted s n) rest) (same ∙ e) ∙ ap (λ y. Some (counted s n y))
        (same_Some x b (sym (find_yes (meets t) x rest e) ∙ h))
    go again (inr e) =
        find_no (meets t) (counted s n x) (map (counted s n) rest) (same ∙ e) ∙ again
        (sym (find_no (meets t) x rest e) ∙ h)

pub without_counted : (blocks : List Block) (s : Section) (n : ℕ) →
    without (map (counted s n) blocks) s ≡ without blocks s
without_counted [] s n = refl
without_counted (x ∷ rest) s n = go (cases_Bool (same_section x.section s)) (without_counted rest s n)
  where
    go : (same_section x.section s ≡ true) ⊎ (same_section x.section s ≡ false) →
        without (map (counted s n) rest) s ≡ without rest s →
        without (map (counted s n) (x ∷ rest)) s ≡ without (x ∷ rest) s
    go (inl e) again =
        ap (λ (b : Bool). if not b then counted s n x ∷ without (map (counted s n) rest) s else without
        (map (counted s n) rest) s) (ap (λ y. same_section y s) (counted_section s n x) ∙ e)
        ∙ (again ∙ sym (ap (λ (b : Bool). if not b then x ∷ without rest s else without rest s) e))
    go (inr e) again =
        ap (λ (b : Bool). if not b then counted s n x ∷ without (map (counted s n) rest) s else without
        (map (counted s n) rest) s) (ap (λ y. same_section y s) (counted_section s n x) ∙ e)
        ∙ (ap₂ (λ y ys. y ∷ ys) (cond-false (same_section x.section s) (record { section = s; count = n }) x e) again
        ∙ sym (ap (λ (b : Bool). if not b then x ∷ without rest s else without rest s) e))

module _ (lengths : List ℕ) (fill : Fill) where
  when_blocks : (x : Bool) (s : Section) (m : Memories) → (when x (copy_out s) m).device.blocks ≡ m.device.blocks
  when_blocks true s m = refl
  when_blocks false s m = refl

  kept_blocks : (x : Bool) (s : Section) (bs : List Block) (m : Memories) →
      when x (copy_out s) (with_blocks bs m) ≡ with_blocks bs (when x (copy_out s) m)
  kept_blocks true s bs m = refl
  kept_blocks false s bs m = refl

  same_after : (x : Bool) (s t : Section) (bs cs : List Block) (m : Memories) →
      with_blocks cs (with_cells (λ c. None) t (when x (copy_out s) (with_blocks bs m))) ≡ with_blocks cs
      (with_cells (λ c. None) t (when x (copy_out s) m))
  same_after true s t bs cs m = refl
  same_after false s t bs cs m = refl

  pub exit_reaches : (item : MapItem) (m m' : Memories) (k : Unit {0} → Left) →
      ((b : Block) → presence m.device.blocks item.section ≡ Inside b → HasStorage item.section m) →
      leave item m ≡ Some m' → Reaches lengths fill (exit_left item k) m (k tt) m'
  exit_reaches item m m' k covered h = go (lies m.device.blocks item.section)
    where
      after : Move → Memories
      after move =
          with_blocks move.blocks (when move.changes (with_cells (λ c. None) move.block)
          (when move.copies (copy_out item.section) m))

      is_after : (move : Move) → exit item m.device.blocks ≡ Some move →
          with_blocks move.blocks (when move.changes (with_cells (λ c. None) move.block)
          (when move.copies (copy_out item.section) m)) ≡ m'
      is_after move e =
          same_Some (after move) m' (sym (ap (option_map (λ move. with_blocks move.blocks (when move.changes (with_cells
          (λ c. None) move.block) (when move.copies (copy_out item.section) m)))) e) ∙ h)

      missed : presence m.device.blocks item.section ≡ Absent → lowered item m ≡ Some (decided false false, m)
      missed e = rw (e, lowered) refl

      in_block : (b : Block) → presence m.device.blocks item.section ≡ Inside b →
          find (meets item.section) m.device.blocks ≡ Some b → is_inside item.section b.section ≡ true →
          Reaches lengths fill (exit_left item k) m (k tt) m'
      in_block b e f i =
          subst (λ x. Reaches lengths fill (exit_left item k) m (k tt) x)
          (is_after (lowered_move item b m.device.blocks) (exit_there item m.device.blocks b e))
          (next (Leave item) (λ r. left_if r.copies (section_left CopyOut item.section)
          (λ u. left_if r.removes (λ l. Asks (Remove item.section) (λ r. l tt)) k))
          (decided (exit_copies item n) (n == 0)) m (with_blocks bs m) (k tt)
          (after (lowered_move item b m.device.blocks)) lowers
          (on_from lengths fill (left_if (exit_copies item n) (section_left CopyOut item.section)
          (λ u. left_if (n == 0) (λ l. Asks (Remove item.section) (λ r. l tt)) k)) (with_blocks bs m)
          (left_if (n == 0) (λ l. Asks (Remove item.section) (λ r. l tt)) k)
          (when (exit_copies item n) (copy_out item.section) (with_blocks bs m)) (k tt)
          (after (lowered_move item b m.device.blocks))
          (out_if lengths fill (exit_copies item n) item.section (with_blocks bs m)
          (λ u. left_if (n == 0) (λ l. Asks (Remove item.section) (λ r. l tt)) k) (covered b e))
          (last (n == 0))))
        where
          n : ℕ
          n = exit_count item.kind b.count

          bs : List Block
          bs = map (counted b.section (exit_count item.kind b.count)) m.device.blocks

          copied : Memories
          copied =
              when (exit_copies item (exit_count item.kind b.count)) (copy_out item.section)
              (with_blocks (map (counted b.section (exit_count item.kind b.count)) m.device.blocks) m)

          lowers : lowered item m ≡ Some (
            decided (exit_copies item (exit_count item.kind b.count))
                (exit_count item.kind b.count == 0),
            with_blocks
                (map (counted b.section (exit_count item.kind b.count)) m.device.blocks) m,
          )
          lowers = rw (e, lowered) refl

          blocks : copied.device.blocks ≡ map (counted b.section (exit_count item.kind b.count)) m.device.blocks
          blocks = when_blocks (exit_copies item n) item.section (with_blocks bs m)

          lies_there : presence copied.device.blocks item.section ≡ Inside
              (counted b.section (exit_count item.kind b.count) b)
          lies_there =
              is_there copied.device.blocks item.section (counted b.section n b)
              (ap (find (meets item.section)) blocks ∙ found_counted m.device.blocks b.section item.section n b f)
              (ap (is_inside item.section) (counted_section b.section n b) ∙ i)

          gone : removed item.section copied ≡ with_blocks (without m.device.blocks b.section)
              (with_cells (λ c. None) b.section (when (exit_copies item (exit_count item.kind b.count))
              (copy_out item.section) m))
          gone =
              is_removed ∙ (ap (λ t. with_blocks (without copied.device.blocks t) (with_cells (λ c. None) t copied))
              (counted_section b.section n b)
              ∙ (ap (λ xs. with_blocks xs (with_cells (λ c. None) b.section copied))
              (ap (λ xs. without xs b.section) blocks ∙ without_counted m.device.blocks b.section n)
              ∙ same_after (exit_copies item n) item.section b.section bs (without m.device.blocks b.section) m))
            where
              is_removed : removed item.section copied ≡ with_blocks
                  (without copied.device.blocks (counted b.section (exit_count item.kind b.count) b).section)
                  (with_cells (λ c. None) (counted b.section (exit_count item.kind b.count) b).section copied)
              is_removed = rw (lies_there, removed) refl

          last : (z : Bool) →
              Reaches lengths fill (left_if z (λ l. Asks (Remove item.section) (λ r. l tt)) k) copied (k tt)
              (with_blocks (if z then without m.device.blocks b.section else map
              (counted b.section (exit_count item.kind b.count)) m.device.blocks)
              (when z (with_cells (λ c. None) b.section)
              (when (exit_copies item (exit_count item.kind b.count)) (copy_out item.section) m)))
          last true =
              subst (λ x. Reaches lengths fill (Asks (Remove item.section) (λ r. k tt)) copied (k tt) x) gone
              (next (Remove item.section) (λ r. k tt) (loaded 0) copied (removed item.section copied) (k tt)
              (removed item.section copied) refl (there (k tt) (removed item.section copied)))
          last false =
              subst (λ x. Reaches lengths fill (k tt) copied (k tt) x)
              (kept_blocks (exit_copies item n) item.section bs m) (there (k tt) copied)

      go : Lies m.device.blocks item.section → Reaches lengths fill (exit_left item k) m (k tt) m'
      go (nowhere e free) =
          subst (λ x. Reaches lengths fill (exit_left item k) m (k tt) x)
          (is_after (ignored_move item m.device.blocks) (exit_absent item m.device.blocks e))
          (next (Leave item) (λ r. left_if r.copies (section_left CopyOut item.section)
          (λ u. left_if r.removes (λ l. Asks (Remove item.section) (λ r. l tt)) k)) (decided false false) m m (k tt) m
          (missed e) (there (k tt) m))
      go (inside b e f i) = in_block b e f i
      go (in_part e) =
          absurd (none-some m' (sym (ap (option_map (λ move. with_blocks move.blocks (when move.changes (with_cells
          (λ c. None) move.block) (when move.copies (copy_out item.section) m)))) (exit_part item m.device.blocks e))
          ∙ h))
