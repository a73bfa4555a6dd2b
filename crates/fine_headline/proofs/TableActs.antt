-- An action on the table does the same in two memories that are alike, and changes only what its item may write.
use Rattle.std.proofs.Common.{◌≡◌, ◌⊎◌, ℕ, ◌+◌, ◌≤◌, Bool, true, false, ◌==◌, List, [], ◌∷◌, ◌++◌, map, Option, Some, None, refl, sym, ◌∙◌, ap, inl, inr, arith, subst}
use Rattle.std.specs.Prelude.{option_map, find}
use Rattle.std.proofs.lemmas.Bool.{cases_Bool, cond-true, cond-false, false_from_ne_true, or_right}
use Rattle.base.specs.declared.item.Cell.{Cell}
use Rattle.base.specs.declared.item.Section.{Section}
use Rattle.base.specs.declared.item.MapItem.{MapItem}
use Rattle.base.specs.Actions.{Dev, Tab}
use Rattle.base.specs.Memory.{View, is_in, is_inside, within}
use Rattle.base.specs.Items.{Plan}
use Rattle.base.specs.Map.{Block, Memories, Fill, Move, Absent, Inside, InPart, presence, counted, without, when, with_blocks, with_cells, entry, entry_copies, exit, exit_count, exit_copies}
use Rattle.base.specs.Blocks.{AreApart, holder}
use Rattle.base.proofs.Blocks.{meets, holder_inside, holder_outside}
use Rattle.base.proofs.Sections.{first_in}
use Rattle.base.proofs.Moves.{is_absent, is_there, is_part, created_move, raised_move, entry_absent, entry_missing, entry_there, entry_part, ignored_move, lowered_move, exit_absent, exit_there}
use Rattle.fine_machine.specs.Left.{Request, Enter, Leave, Remove, Answer}
use Rattle.fine_machine.specs.Action.{act, loaded, decided, lowered, removed}
use Rattle.two_memories.specs.Two.{less, one_inside, number_inside}
use Rattle.two_memories.proofs.Entered.{is_entered}
use Rattle.two_memories.proofs.MapMoves.{acts_entry, acts_exit, within_no}
use Rattle.two_memories.proofs.LikeMemories.{touched, Covers, more, Quiet, none, more_none}
use Rattle.two_memories.proofs.AdjustedCounts.{access_of, less_grown}
use Rattle.two_memories.proofs.EntryFrame.{EntryAccess, entry_access, table_touched, not_written, copies_late}
use Rattle.two_memories.proofs.ExitFrame.{ExitAccess, exit_access, exit_touched, copies_by}
use Rattle.two_memories.proofs.ExitCounts.{Falls, falls_of}
use Rattle.fine_headline.specs.FineState.{is_resting, entered_now, all_but_first}
use Rattle.fine_headline.proofs.Tables.{TableLike, LiesIn, first, found_too, counted_like, counted_up, counted_down, counted_outside, removed_like, absent_too, created_like, created_outside}
use Rattle.fine_headline.proofs.Resting.{number_appended}
use Rattle.fine_headline.proofs.Walking.{IsStanding, EntersHere, LeavesHere, RemovesHere}

within_alike : (s : Section) (f g h : View) (c : Cell) → g c ≡ h c → within s f g c ≡ within s f h c
within_alike s f g h c e = ap (λ o. elim (is_in c s) [ true ↦ f c | false ↦ o ]) e

module _ (plan : Plan) (i : ℕ) (lengths : List ℕ) (fill : Fill) (u u' : Memories) (d : Section → ℕ) (ms : List MapItem)
    (like : TableLike d (access_of plan i) u.device.blocks u'.device.blocks) (quiet : Quiet d (access_of plan i))
    (apart : AreApart u.device.blocks) (apart' : AreApart u'.device.blocks)
    (alike_cells : (c : Cell) → touched (access_of plan i) Dev c ≡ true → u.device.cells c ≡ u'.device.cells c) where
  abbrev xs : List Block
  xs = u.device.blocks

  abbrev ys : List Block
  ys = u'.device.blocks

  -- what an action on the table makes of both memories
  pub record IsMoved (r : Request) (n n' : Memories) : Type 0 where
    pub host : n.host ≡ u.host
    pub host' : n'.host ≡ u'.host
    pub cells : (c : Cell) → (access_of plan i).writes Dev c ≡ false → n.device.cells c ≡ u.device.cells c
    pub same_cells : (c : Cell) → touched (access_of plan i) Dev c ≡ true → n.device.cells c ≡ n'.device.cells c
    pub tables : TableLike d (access_of plan i) n.device.blocks n'.device.blocks
    pub kept : (c : Cell) → (access_of plan i).writes Tab c ≡ false → (old now : Section → ℕ) →
        ((s : Section) → old s ≡ d s + number_inside ms s) →
        ((s : Section) → now s ≡ d s + number_inside (entered_now (is_resting plan i) r ms) s) →
        option_map (less now) (holder n.device.blocks c) ≡ option_map (less old) (holder u.device.blocks c)

  pub record BothMove (r : Request) : Type 0 where
    pub answer : Answer
    pub after : Memories
    pub after' : Memories
    pub is : act lengths fill r u ≡ Some (answer, after)
    pub is' : act lengths fill r u' ≡ Some (answer, after')
    pub moved : IsMoved r after after'

  -- an entry that is as it was, where nothing more rests
  kept_as : (o o' : Option Block) (old now : Section → ℕ) (e : Section → ℕ) → ((s : Section) → old s ≡ e s) →
      ((s : Section) → now s ≡ e s) → o' ≡ o → option_map (less now) o' ≡ option_map (less old) o
  kept_as o o' old now e f g h =
      less_grown old now none o o' (λ s. level (old s) (now s) (e s) (f s) (g s)) (h ∙ sym (more_none o))
    where
      level : (a b c : ℕ) → a ≡ c → b ≡ c → b ≡ a + 0
      level a b c p q = omega arith

  works_entered : (item : MapItem) → is_resting plan i item ≡ false →
      entered_now (is_resting plan i) (Enter item) ms ≡ ms
  works_entered item e = cond-false (is_resting plan i item) (ms ++ item ∷ []) ms e

  works_left : (item : MapItem) → is_resting plan i item ≡ false → entered_now (is_resting plan i) (Leave item) ms ≡ ms
  works_left item e = cond-false (is_resting plan i item) (all_but_first ms) ms e

  outside : (loc : _) (c : Cell) (s : Section) →
      ((x : Cell) → is_in x s ≡ true → (access_of plan i).writes loc x ≡ true) →
      (access_of plan i).writes loc c ≡ false → is_in c s ≡ false
  outside loc c s h w = not_written (access_of plan i) loc c s h w

  -- An entry.

  abbrev after_enter : Move → Memories → Answer × Memories
  after_enter move m = (
    decided move.copies false,
    when move.changes (with_cells (λ c. Some (fill c)) move.block)
        (with_blocks move.blocks m),
  )

  module _ (item : MapItem) (h : EntersHere plan i item ms ys) where
    enter_access : (move : Move) → entry item ys ≡ Some move →
        EntryAccess (is_resting plan i item) item move (access_of plan i)
    enter_access move e =
        entry_access (is_resting plan i item) item move (access_of plan i)
        (subst (λ acts. Covers acts (access_of plan i)) (acts_entry (is_resting plan i) item ys move e) h.covers)

    enter_is : (bs : List Block) (m : Memories) (move : Move) → m.device.blocks ≡ bs → entry item bs ≡ Some move →
        act lengths fill (Enter item) m ≡ Some (after_enter move m)
    enter_is bs m move same e =
        ap (λ (o : Option Move). option_map (λ move. after_enter move m) o) (ap (entry item) same ∙ e)

    created : find (meets item.section) ys ≡ None → item.present ≡ false → BothMove (Enter item)
    created none unwanted = record {
      answer = decided (entry_copies item 1) false;
      after = with_cells (λ c. Some (fill c)) item.section (with_blocks (created_move item xs).blocks u);
      after' = with_cells (λ c. Some (fill c)) item.section (with_blocks (created_move item ys).blocks u');
      is =
          enter_is xs u (created_move item xs) refl
          (entry_absent item xs (is_absent xs item.section
          (absent_too d (access_of plan i) xs ys like apart apart' item.section h.size none table)) unwanted);
      is' = enter_is ys u' (created_move item ys) refl makes;
      moved = record {
        host = refl;
        host' = refl;
        cells =
            λ c w. within_no item.section (λ c. Some (fill c)) u.device.cells c
            (outside Dev c item.section (access.creates refl) w);
        same_cells =
            λ c t. within_alike item.section (λ c. Some (fill c)) u.device.cells u'.device.cells c (alike_cells c t);
        tables =
            created_like d (access_of plan i) xs ys like apart apart' item.section h.size none table
            (quiet item.section (access.counts works));
        kept =
            λ c w old now e f. kept_as (holder xs c) (holder (created_move item xs).blocks c) old now
            (λ s. d s + number_inside ms s) e
            (λ s. f s ∙ ap (λ l. d s + number_inside l s) (works_entered item works))
            (created_outside d (access_of plan i) xs ys like apart apart' item.section h.size none table c
            (outside Tab c item.section (access.counts works) w));
      };
    }
      where
        makes : entry item ys ≡ Some (created_move item ys)
        makes = entry_absent item ys (is_absent ys item.section none) unwanted

        works : is_resting plan i item ≡ false
        works = false_from_ne_true _ (λ r. h.there r (is_absent ys item.section none))

        access : EntryAccess (is_resting plan i item) item (created_move item ys) (access_of plan i)
        access = enter_access (created_move item ys) makes

        table : (c : Cell) → is_in c item.section ≡ true → touched (access_of plan i) Tab c ≡ true
        table c j = or_right _ _ (access.counts works c j)

    raised : (b : Block) → find (meets item.section) ys ≡ Some b → is_inside item.section b.section ≡ true →
        BothMove (Enter item)
    raised b found inside = record {
      answer = decided (entry_copies item (b.count + 1)) false;
      after = with_blocks (map (counted b.section (b.count + d b.section + 1)) xs) u;
      after' = with_blocks (map (counted b.section (b.count + 1)) ys) u';
      is =
          enter_is xs u (raised_move item (more d b) xs) refl
          (entry_there item xs (more d b) (is_there xs item.section (more d b)
          (found_too d (access_of plan i) xs ys like apart apart' item.section b lies) inside))
          ∙ ap (λ k. Some (decided k false, with_blocks (map (counted b.section (b.count + d b.section + 1)) xs) u))
          (same_copies (is_resting plan i item) refl);
      is' = enter_is ys u' (raised_move item b ys) refl rises;
      moved = record {
        host = refl;
        host' = refl;
        cells = λ c w. refl;
        same_cells = alike_cells;
        tables =
            counted_like d (access_of plan i) xs ys like apart apart' item.section b lies (b.count + d b.section + 1)
            (b.count + 1) (up b.count (d b.section));
        kept = λ c w old now e f. kept (is_resting plan i item) refl c w old now e f;
      };
    }
      where
        up : (x y : ℕ) → x + y + 1 ≡ x + 1 + y
        up x y = omega arith

        rises : entry item ys ≡ Some (raised_move item b ys)
        rises = entry_there item ys b (is_there ys item.section b found inside)

        access : EntryAccess (is_resting plan i item) item (raised_move item b ys) (access_of plan i)
        access = enter_access (raised_move item b ys) rises

        lies : LiesIn (access_of plan i) ys item.section b
        lies =
            record {
              size = h.size;
              found = found;
              inside = inside;
              touched = table_touched
                  (is_resting plan i item) item (raised_move item b ys) (access_of plan i) access;
            }

        there_once : 1 ≤ b.count
        there_once =
            is_entered ys (first item.section) b h.entered
            (holder_inside ys item.section b (first item.section) found inside (first_in item.section h.size))

        same_copies : (q : Bool) → is_resting plan i item ≡ q →
            entry_copies item (b.count + d b.section + 1) ≡ entry_copies item (b.count + 1)
        same_copies true e =
            let p = there_once in copies_late item (b.count + d b.section + 1) (omega arith) ∙ sym
            (copies_late item (b.count + 1) (omega arith))
        same_copies false e =
            ap (λ k. entry_copies item (b.count + k + 1)) (quiet b.section (access.counts e)) ∙ ap
            (λ k. entry_copies item (k + 1)) (nothing b.count)
          where
            nothing : (n : ℕ) → n + 0 ≡ n
            nothing n = omega arith

        kept : (q : Bool) → is_resting plan i item ≡ q → (c : Cell) → (access_of plan i).writes Tab c ≡ false →
            (old now : Section → ℕ) → ((s : Section) → old s ≡ d s + number_inside ms s) →
            ((s : Section) → now s ≡ d s + number_inside (entered_now (is_resting plan i) (Enter item) ms) s) →
            option_map (less now) (holder (map (counted b.section (b.count + d b.section + 1)) xs) c) ≡ option_map
            (less old) (holder xs c)
        kept true r c w old now e f =
            less_grown old now (λ s. one_inside s item) (holder xs c)
            (holder (map (counted b.section (b.count + d b.section + 1)) xs) c)
            (λ s. rests_more (old s) (now s) (d s) (number_inside ms s) (one_inside s item) (e s)
            (f s ∙ (ap (λ l. d s + number_inside l s) (cond-true (is_resting plan i item) (ms ++ item ∷ []) ms r) ∙ ap
            (λ k. d s + k) (number_appended ms item s))))
            (counted_up d (access_of plan i) xs ys like apart apart' item.section b lies item refl
            (b.count + d b.section + 1) refl c)
          where
            rests_more : (a b c p q : ℕ) → a ≡ c + p → b ≡ c + (p + q) → b ≡ a + q
            rests_more a b c p q x y = omega arith
        kept false r c w old now e f =
            kept_as (holder xs c) (holder (map (counted b.section (b.count + d b.section + 1)) xs) c) old now
            (λ s. d s + number_inside ms s) e
            (λ s. f s ∙ ap (λ l. d s + number_inside l s) (works_entered item r))
            (counted_outside d (access_of plan i) xs ys like apart apart' item.section b lies
            (b.count + d b.section + 1) c (outside Tab c b.section (access.counts r) w))

    pub both_enter : (act lengths fill (Enter item) u' ≡ None) ⊎ BothMove (Enter item)
    both_enter = go (find (meets item.section) ys) refl
      where
        present : (b : Block) → find (meets item.section) ys ≡ Some b →
            (is_inside item.section b.section ≡ true) ⊎ (is_inside item.section b.section ≡ false) →
            (act lengths fill (Enter item) u' ≡ None) ⊎ BothMove (Enter item)
        present b e (inl j) = inr (raised b e j)
        present b e (inr j) =
            inl (ap (λ (o : Option Move). option_map (λ move. after_enter move u') o)
            (entry_part item ys (is_part ys item.section b e j)))

        go : (o : Option Block) → find (meets item.section) ys ≡ o →
            (act lengths fill (Enter item) u' ≡ None) ⊎ BothMove (Enter item)
        go None e = by item.present refl
          where
            by : (b : Bool) → item.present ≡ b → (act lengths fill (Enter item) u' ≡ None) ⊎ BothMove (Enter item)
            by false f = inr (created e f)
            by true f =
                inl (ap (λ (o : Option Move). option_map (λ move. after_enter move u') o)
                (entry_missing item ys (is_absent ys item.section e) f))
        go (Some b) e = present b e (cases_Bool (is_inside item.section b.section))

  -- An exit.

  module _ (item : MapItem) (h : LeavesHere plan i item ms ys) where
    leave_access : (move : Move) → exit item ys ≡ Some move →
        ExitAccess (is_resting plan i item) item move (access_of plan i)
    leave_access move e =
        exit_access (is_resting plan i item) item move (access_of plan i)
        (subst (λ acts. Covers acts (access_of plan i)) (acts_exit (is_resting plan i) item ys move e) h.covers)

    lowered_absent : (m : Memories) → presence m.device.blocks item.section ≡ Absent →
        lowered item m ≡ Some (decided false false, m)
    lowered_absent m e = rw (e, lowered) refl

    lowered_there : (m : Memories) (b : Block) → presence m.device.blocks item.section ≡ Inside b →
        lowered item m ≡ Some (
          decided (exit_copies item (exit_count item.kind b.count))
              (exit_count item.kind b.count == 0),
          with_blocks
              (map (counted b.section (exit_count item.kind b.count)) m.device.blocks) m,
        )
    lowered_there m b e = rw (e, lowered) refl

    lowered_part : (m : Memories) → presence m.device.blocks item.section ≡ InPart → lowered item m ≡ None
    lowered_part m e = rw (e, lowered) refl

    missed : find (meets item.section) ys ≡ None → BothMove (Leave item)
    missed none = record {
      answer = decided false false;
      after = u;
      after' = u';
      is =
          lowered_absent u (is_absent xs item.section
          (absent_too d (access_of plan i) xs ys like apart apart' item.section h.size none table));
      is' = lowered_absent u' (is_absent ys item.section none);
      moved = record {
        host = refl;
        host' = refl;
        cells = λ c w. refl;
        same_cells = alike_cells;
        tables = like;
        kept =
            λ c w old now e f. kept_as (holder xs c) (holder xs c) old now (λ s. d s + number_inside ms s) e
            (λ s. f s ∙ ap (λ l. d s + number_inside l s) (works_left item works)) refl;
      };
    }
      where
        works : is_resting plan i item ≡ false
        works = false_from_ne_true _ (λ r. h.there r (is_absent ys item.section none))

        access : ExitAccess (is_resting plan i item) item (ignored_move item ys) (access_of plan i)
        access = leave_access (ignored_move item ys) (exit_absent item ys (is_absent ys item.section none))

        table : (c : Cell) → is_in c item.section ≡ true → touched (access_of plan i) Tab c ≡ true
        table c j = or_right _ _ (access.counts works c j)

    lowers : (b : Block) → find (meets item.section) ys ≡ Some b → is_inside item.section b.section ≡ true →
        BothMove (Leave item)
    lowers b found inside = record {
      answer = decided (exit_copies item q) (q == 0);
      after = with_blocks (map (counted b.section p) xs) u;
      after' = with_blocks (map (counted b.section q) ys) u';
      is =
          lowered_there u (more d b) (is_there xs item.section (more d b)
          (found_too d (access_of plan i) xs ys like apart apart' item.section b lies) inside)
          ∙ (ap (λ k. Some (decided k (p == 0), with_blocks (map (counted b.section p) xs) u))
          (copies_by item p q falls.test)
          ∙ ap (λ k. Some (decided (exit_copies item q) k, with_blocks (map (counted b.section p) xs) u)) falls.test);
      is' = lowered_there u' b (is_there ys item.section b found inside);
      moved = record {
        host = refl;
        host' = refl;
        cells = λ c w. refl;
        same_cells = alike_cells;
        tables = counted_like d (access_of plan i) xs ys like apart apart' item.section b lies p q falls.above;
        kept = λ c w old now e f. kept (is_resting plan i item) refl c w old now e f;
      };
    }
      where
        p : ℕ
        p = exit_count item.kind (b.count + d b.section)

        q : ℕ
        q = exit_count item.kind b.count

        access : ExitAccess (is_resting plan i item) item (lowered_move item b ys) (access_of plan i)
        access = leave_access (lowered_move item b ys) (exit_there item ys b (is_there ys item.section b found inside))

        lies : LiesIn (access_of plan i) ys item.section b
        lies =
            record {
              size = h.size;
              found = found;
              inside = inside;
              touched = exit_touched (is_resting plan i item) item
                  (lowered_move item b ys) (access_of plan i) access;
            }

        one : one_inside b.section item ≡ 1
        one = cond-true (is_inside item.section b.section) 1 0 inside

        twice : is_resting plan i item ≡ true → 2 ≤ b.count
        twice r =
            by (h.stands (first item.section) b (holder_inside ys item.section b (first item.section) found inside
            (first_in item.section h.size)))
          where
            mine : number_inside ms b.section ≡ 1 + number_inside (all_but_first ms) b.section
            mine =
                ap (λ l. number_inside l b.section) (h.first r) ∙ ap
                (λ k. k + number_inside (all_but_first ms) b.section) one

            by : IsStanding plan i ms b → 2 ≤ b.count
            by (inl lt) = let e = mine in omega arith
            by (inr z) = let e = mine in let o = z.0 in absurd (omega arith)

        falls : Falls (is_resting plan i item) item.kind b.count (d b.section)
        falls =
            falls_of (is_resting plan i item) item.kind b.count (d b.section) h.keeps twice
            (λ r. quiet b.section (access.counts r))

        kept : (z : Bool) → is_resting plan i item ≡ z → (c : Cell) → (access_of plan i).writes Tab c ≡ false →
            (old now : Section → ℕ) → ((s : Section) → old s ≡ d s + number_inside ms s) →
            ((s : Section) → now s ≡ d s + number_inside (entered_now (is_resting plan i) (Leave item) ms) s) →
            option_map (less now) (holder (map (counted b.section p) xs) c) ≡ option_map (less old) (holder xs c)
        kept true r c w old now e f =
            sym (less_grown now old (λ s. one_inside s item) (holder (map (counted b.section p) xs) c) (holder xs c)
            (λ s. rests_less (old s) (now s) (d s) (number_inside (all_but_first ms) s) (one_inside s item)
            (e s ∙ ap (λ l. d s + number_inside l s) (h.first r))
            (f s ∙ ap (λ l. d s + number_inside l s) (cond-true (is_resting plan i item) (all_but_first ms) ms r)))
            (counted_down d (access_of plan i) xs ys like apart apart' item.section b lies item refl p
            (down p q (d b.section) b.count falls.above (falls.one r)) c))
          where
            rests_less : (a b c x y : ℕ) → a ≡ c + (y + x) → b ≡ c + x → a ≡ b + y
            rests_less a b c x y g k = omega arith

            down : (p q x n : ℕ) → p ≡ q + x → q + 1 ≡ n → p + 1 ≡ n + x
            down p q x n g k = omega arith
        kept false r c w old now e f =
            kept_as (holder xs c) (holder (map (counted b.section p) xs) c) old now (λ s. d s + number_inside ms s) e
            (λ s. f s ∙ ap (λ l. d s + number_inside l s) (works_left item r))
            (counted_outside d (access_of plan i) xs ys like apart apart' item.section b lies p c
            (outside Tab c b.section (access.counts r) w))

    pub both_leave : (act lengths fill (Leave item) u' ≡ None) ⊎ BothMove (Leave item)
    both_leave = go (find (meets item.section) ys) refl
      where
        present : (b : Block) → find (meets item.section) ys ≡ Some b →
            (is_inside item.section b.section ≡ true) ⊎ (is_inside item.section b.section ≡ false) →
            (act lengths fill (Leave item) u' ≡ None) ⊎ BothMove (Leave item)
        present b e (inl j) = inr (lowers b e j)
        present b e (inr j) = inl (lowered_part u' (is_part ys item.section b e j))

        go : (o : Option Block) → find (meets item.section) ys ≡ o →
            (act lengths fill (Leave item) u' ≡ None) ⊎ BothMove (Leave item)
        go None e = inr (missed e)
        go (Some b) e = present b e (cases_Bool (is_inside item.section b.section))

  -- A removal.

  pub both_remove : (s : Section) → RemovesHere plan i s ms ys → BothMove (Remove s)
  both_remove s h = record {
    answer = loaded 0;
    after = with_blocks (without xs b.section) (with_cells (λ c. None) b.section u);
    after' = with_blocks (without ys b.section) (with_cells (λ c. None) b.section u');
    is =
        ap (λ m. Some (loaded 0, m)) (removed_there u (more d b)
        (is_there xs s (more d b) (found_too d (access_of plan i) xs ys like apart apart' s b lies) h.inside));
    is' = ap (λ m. Some (loaded 0, m)) (removed_there u' b (is_there ys s b h.found h.inside));
    moved = record {
      host = refl;
      host' = refl;
      cells = λ c w. within_no b.section (λ c. None) u.device.cells c (outside Dev c b.section h.cells w);
      same_cells = λ c t. within_alike b.section (λ c. None) u.device.cells u'.device.cells c (alike_cells c t);
      tables = removed_like d (access_of plan i) xs ys like apart apart' s b lies;
      kept =
          λ c w old now e f. kept_as (holder xs c) (holder (without xs b.section) c) old now
          (λ s. d s + number_inside ms s) e f (holder_outside xs b.section c (outside Tab c b.section h.table w));
    };
  }
    where
      b : Block
      b = h.block

      lies : LiesIn (access_of plan i) ys s b
      lies = record { size = h.size; found = h.found; inside = h.inside; touched = λ c j. or_right _ _ (h.table c j) }

      removed_there : (m : Memories) (x : Block) → presence m.device.blocks s ≡ Inside x →
          removed s m ≡ with_blocks (without m.device.blocks x.section) (with_cells (λ c. None) x.section m)
      removed_there m x e = rw (e, removed) refl
