-- Entries in turn, where the copies come after the counts.
use Rattle.std.proofs.Common.{◌≡◌, ◌⊎◌, ℕ, ◌+◌, Bool, true, false, List, [], ◌∷◌, ◌++◌, map, Option, Some, None, refl, sym, ◌∙◌, ap, inl, inr, subst}
use Rattle.std.specs.Prelude.{find, option_map}
use mathlib.Core.Path.{fun_ext}
use Rattle.std.proofs.lemmas.Bool.{cases_Bool, cond-true, cond-false}
use Rattle.base.specs.declared.item.Cell.{Cell}
use Rattle.base.specs.declared.item.Section.{Section}
use Rattle.base.specs.declared.item.MapItem.{MapItem}
use Rattle.base.specs.Memory.{Memory, View, is_in, is_inside, overlaps, same_section, within}
use Rattle.base.specs.Map.{Block as Present, Fill, Memories, Move, Presence, Absent, Inside, InPart, presence, counted, entry, entry_copies, enter, in_turn, copy_in, when}
use Rattle.present.specs.Table.{with_created}
use Rattle.base.proofs.Sections.{same_parts}
use Rattle.base.proofs.Blocks.{meets, judge, presence_is, find_yes, find_no, holder_absent, holder_inside}
use Rattle.present.proofs.NeededCells.{absent_found}
use Rattle.present.proofs.Shown.{within_in, within_out}
use Rattle.base.proofs.Moves.{created_move, raised_move, entry_absent, entry_missing, entry_there, entry_part}
use Rattle.present.proofs.Rules.{enters}

-- A section that is present stays present.

-- what is known of a section that is present
pub record Found (blocks : List Present) (s : Section) : Type 0 where
  pub block : Present
  pub is : find (meets s) blocks ≡ Some block
  pub inside : is_inside s block.section ≡ true

pub found : (blocks : List Present) (s : Section) (b : Present) → presence blocks s ≡ Inside b → Found blocks s
found blocks s b e = go (find (meets s) blocks) refl
  where
    judged : (x : Present) (t : Bool) → is_inside s x.section ≡ t → judge s (Some x) ≡ Inside b →
        is_inside s x.section ≡ true
    judged x true i f = i
    judged x false i f = absurd (cc (sym (cond-false (is_inside s x.section) (Inside x) InPart i) ∙ f))

    go : (o : Option Present) → find (meets s) blocks ≡ o → Found blocks s
    go None f = absurd (cc (sym (presence_is blocks s ∙ ap (judge s) f) ∙ e))
    go (Some x) f = record {
      block = x;
      is = f;
      inside = judged x (is_inside s x.section) refl (sym (ap (judge s) f) ∙ (sym (presence_is blocks s) ∙ e));
    }

pub present_from : (blocks : List Present) (s : Section) (h : Found blocks s) → presence blocks s ≡ Inside h.block
present_from blocks s h =
    presence_is blocks s ∙ ap (judge s) h.is
    ∙ cond-true (is_inside s h.block.section) (Inside h.block) InPart h.inside

found_more : (blocks : List Present) (more : Present) (s : Section) (b : Present) → find (meets s) blocks ≡ Some b →
    find (meets s) (blocks ++ more ∷ []) ≡ Some b
found_more [] more s b h = absurd (cc)
found_more (a ∷ rest) more s b h = go (λ e. found_more rest more s b e) (cases_Bool (meets s a))
  where
    go : (find (meets s) rest ≡ Some b → find (meets s) (rest ++ more ∷ []) ≡ Some b) →
        (meets s a ≡ true) ⊎ (meets s a ≡ false) →
        find (meets s) ((a ∷ rest) ++ more ∷ []) ≡ Some b
    go again (inl i) = find_yes (meets s) a (rest ++ more ∷ []) i ∙ (sym (find_yes (meets s) a rest i) ∙ h)
    go again (inr i) = find_no (meets s) a (rest ++ more ∷ []) i ∙ again (sym (find_no (meets s) a rest i) ∙ h)

-- a counted block has its section
counted_section : (s : Section) (n : ℕ) (b : Present) → (counted s n b).section ≡ b.section
counted_section s n b = go (cases_Bool (same_section b.section s))
  where
    go : (same_section b.section s ≡ true) ⊎ (same_section b.section s ≡ false) → (counted s n b).section ≡ b.section
    go (inl e) =
        let p = same_parts b.section s e in
        ap (λ (x : Present). x.section) (cond-true (same_section b.section s) (record { section = s; count = n }) b e)
        ∙ (λ i. record { array = record { 0 = sym p.array i }; first = sym p.first i; length = sym p.length i })
    go (inr e) = ap (λ (x : Present). x.section) (cond-false (same_section b.section s)
        (record { section = s; count = n }) b e)

found_counted : (blocks : List Present) (x : Section) (n : ℕ) (s : Section) (b : Present) →
    find (meets s) blocks ≡ Some b →
    find (meets s) (map (counted x n) blocks) ≡ Some (counted x n b)
found_counted [] x n s b h = absurd (cc)
found_counted (a ∷ rest) x n s b h = go (λ e. found_counted rest x n s b e) (cases_Bool (meets s a))
  where
    same : meets s (counted x n a) ≡ meets s a
    same = ap (λ t. overlaps t s) (counted_section x n a)

    go : (find (meets s) rest ≡ Some b → find (meets s) (map (counted x n) rest) ≡ Some (counted x n b)) →
        (meets s a ≡ true) ⊎ (meets s a ≡ false) →
        find (meets s) (map (counted x n) (a ∷ rest)) ≡ Some (counted x n b)
    go again (inl i) =
        find_yes (meets s) (counted x n a) (map (counted x n) rest) (same ∙ i)
        ∙ ap (option_map (counted x n)) (sym (find_yes (meets s) a rest i) ∙ h)
    go again (inr i) =
        find_no (meets s) (counted x n a) (map (counted x n) rest) (same ∙ i)
        ∙ again (sym (find_no (meets s) a rest i) ∙ h)

-- an entry keeps a section present
move_keeps : (item : MapItem) (blocks : List Present) (s : Section) → Found blocks s → (move : Move) →
    entry item blocks ≡ Some move → Found move.blocks s
move_keeps item blocks s h move e = go (presence blocks item.section) refl
  where
    absent : presence blocks item.section ≡ Absent → (item.present ≡ true) ⊎ (item.present ≡ false) → Found move.blocks s
    absent f (inl p) = absurd (cc (sym (entry_missing item blocks f p) ∙ e))
    absent f (inr p) =
        let g : Some (created_move item blocks) ≡ Some move = sym (entry_absent item blocks f p) ∙ e in
        let is : created_move item blocks ≡ move = cc g in
        subst (λ (m : Move). Found m.blocks s) is (record {
          block = h.block;
          is = found_more blocks (record { section = item.section; count = 1 }) s h.block h.is;
          inside = h.inside;
        })

    go : (p : Presence) → presence blocks item.section ≡ p → Found move.blocks s
    go Absent f = absent f (cases_Bool item.present)
    go (Inside b) f =
        let g : Some (raised_move item b blocks) ≡ Some move = sym (entry_there item blocks b f) ∙ e in
        let is : raised_move item b blocks ≡ move = cc g in
        subst (λ (m : Move). Found m.blocks s) is (record {
          block = counted b.section (b.count + 1) h.block;
          is = found_counted blocks b.section (b.count + 1) s h.block h.is;
          inside = ap (is_inside s) (counted_section b.section (b.count + 1) h.block) ∙ h.inside;
        })
    go InPart f = absurd (cc (sym (entry_part item blocks f) ∙ e))

-- A copy and a later entry, in either order.

-- the memories after the counts of an entry, and its copy
abbrev pub after : Fill → MapItem → Move → Memories → Memories
after fill item move m =
    when move.copies (copy_in item.section) (record { host = m.host; device = with_created fill move m.device })

-- the cells that an entry leaves
abbrev left_cells : Section → Memory → Fill → Bool → Bool → View → View
left_cells t host fill true true cells = within t (λ c. Some (host c)) (within t (λ c. Some (fill c)) cells)
left_cells t host fill true false cells = within t (λ c. Some (fill c)) cells
left_cells t host fill false true cells = within t (λ c. Some (host c)) cells
left_cells t host fill false false cells = cells

two : {A : Type 0} (s t : Section) (f g h : Cell → A) (c : Cell) →
    (is_in c s ≡ true → is_in c t ≡ true → f c ≡ g c) →
    within t f (within s g h) c ≡ within s g (within t f h) c
two s t f g h c e = go (cases_Bool (is_in c s)) (cases_Bool (is_in c t))
  where
    go : (is_in c s ≡ true) ⊎ (is_in c s ≡ false) → (is_in c t ≡ true) ⊎ (is_in c t ≡ false) →
        within t f (within s g h) c ≡ within s g (within t f h) c
    go (inl i) (inl j) = within_in t f (within s g h) c j ∙ e i j ∙ sym (within_in s g (within t f h) c i)
    go (inl i) (inr j) =
        within_out t f (within s g h) c j ∙ within_in s g h c i ∙ sym (within_in s g (within t f h) c i)
    go (inr i) (inl j) =
        within_in t f (within s g h) c j ∙ sym (within_in t f h c j) ∙ sym (within_out s g (within t f h) c i)
    go (inr i) (inr j) =
        within_out t f (within s g h) c j ∙ within_out s g h c i ∙ sym (within_out t f h c j)
        ∙ sym (within_out s g (within t f h) c i)

swapped : (s t : Section) (host : Memory) (fill : Fill) (creates copies : Bool) (cells : View) →
    (creates ≡ true → (c : Cell) → is_in c s ≡ true → is_in c t ≡ true → ⊥) →
    left_cells t host fill creates copies (within s (λ c. Some (host c)) cells)
    ≡ within s (λ c. Some (host c)) (left_cells t host fill creates copies cells)
swapped s t host fill false false cells apart = refl
swapped s t host fill false true cells apart = fun_ext (λ c. two s t (λ c. Some (host c)) (λ c. Some
    (host c)) cells c (λ i j. refl))
swapped s t host fill true false cells apart =
    fun_ext (λ c. two s t (λ c. Some (fill c)) (λ c. Some (host c)) cells c (λ i j. absurd (apart refl c i j)))
swapped s t host fill true true cells apart =
    ap (within t (λ c. Some (host c)))
    (fun_ext (λ c. two s t (λ c. Some (fill c)) (λ c. Some (host c)) cells c (λ i j. absurd (apart refl c i j))))
    ∙ fun_ext (λ c. two s t (λ c. Some (host c)) (λ c. Some (host c)) (within t (λ c. Some (fill c)) cells) c
    (λ i j. refl))

-- an entry's memories, with its two choices written out
after_is : (fill : Fill) (t : Section) (blocks : List Present) (creates copies : Bool) (m : Memories) →
    when copies (copy_in t) (record {
      host = m.host;
      device = record {
        blocks = blocks;
        cells = elim creates [ true ↦ within t (λ c. Some (fill c)) m.device.cells | false ↦ m.device.cells ];
      };
    }) ≡ record {
      host = m.host;
      device = record {
        blocks = blocks;
        cells = left_cells t m.host fill creates copies
            m.device.cells;
      };
    }
after_is fill t blocks true true m = refl
after_is fill t blocks true false m = refl
after_is fill t blocks false true m = refl
after_is fill t blocks false false m = refl

pub no_enter : (fill : Fill) (item : MapItem) (m : Memories) → entry item m.device.blocks ≡ None →
    enter fill item m ≡ None
no_enter fill item m e = ap (option_map _) e

module _ (fill : Fill) (item : MapItem) (s : Section) (m : Memories) (h : Found m.device.blocks s) where
  -- the entry of a created block, after a copy
  created_swaps : presence m.device.blocks item.section ≡ Absent →
      after fill item (created_move item m.device.blocks) (copy_in s m)
      ≡ copy_in s (after fill item (created_move item m.device.blocks) m)
  created_swaps e =
      after_is fill item.section _ true (entry_copies item 1) (copy_in s m)
      ∙ ap (λ (cells : View). record {
        host = m.host;
        device = record {
          blocks = m.device.blocks ++ record { section = item.section; count = 1 } ∷ [];
          cells = cells;
        };
      }) (swapped s item.section m.host fill true (entry_copies item 1) m.device.cells
      (λ x c i j. apart c i j))
      ∙ ap (copy_in s) (sym (after_is fill item.section _ true (entry_copies item 1) m))
    where
      apart : (c : Cell) → is_in c s ≡ true → is_in c item.section ≡ true → ⊥
      apart c i j =
          let some = holder_inside m.device.blocks s h.block c h.is h.inside i in
          let none = holder_absent m.device.blocks item.section c (absent_found m.device.blocks item.section e) j in
          cc (sym some ∙ none)

  raised_swaps : (b : Present) →
      after fill item (raised_move item b m.device.blocks) (copy_in s m)
      ≡ copy_in s (after fill item (raised_move item b m.device.blocks) m)
  raised_swaps b =
      after_is fill item.section _ false (entry_copies item (b.count + 1)) (copy_in s m)
      ∙ ap (λ (cells : View). record {
        host = m.host;
        device = record {
          blocks = map (counted b.section (b.count + 1)) m.device.blocks;
          cells = cells;
        };
      }) (swapped s item.section m.host fill false (entry_copies item (b.count + 1)) m.device.cells (λ x. absurd
      (cc x)))
      ∙ ap (copy_in s) (sym (after_is fill item.section _ false (entry_copies item (b.count + 1)) m))

  pub enter_swaps : enter fill item (copy_in s m) ≡ option_map (copy_in s) (enter fill item m)
  enter_swaps = go (presence m.device.blocks item.section) refl
    where
      refused : entry item m.device.blocks ≡ None →
          enter fill item (copy_in s m) ≡ option_map (copy_in s) (enter fill item m)
      refused e = no_enter fill item (copy_in s m) e ∙ ap (option_map (copy_in s)) (sym (no_enter fill item m e))

      absent : presence m.device.blocks item.section ≡ Absent → (item.present ≡ true) ⊎ (item.present ≡ false) →
          enter fill item (copy_in s m) ≡ option_map (copy_in s) (enter fill item m)
      absent e (inl p) = refused (entry_missing item m.device.blocks e p)
      absent e (inr p) =
          enters fill item _ (copy_in s m) (entry_absent item m.device.blocks e p)
          ∙ ap Some (created_swaps e)
          ∙ ap (option_map (copy_in s)) (sym (enters fill item _ m (entry_absent item m.device.blocks e p)))

      go : (p : Presence) → presence m.device.blocks item.section ≡ p →
          enter fill item (copy_in s m) ≡ option_map (copy_in s) (enter fill item m)
      go Absent e = absent e (cases_Bool item.present)
      go (Inside b) e =
          enters fill item _ (copy_in s m) (entry_there item m.device.blocks b e)
          ∙ ap Some (raised_swaps b)
          ∙ ap (option_map (copy_in s)) (sym (enters fill item _ m (entry_there item m.device.blocks b e)))
      go InPart e = refused (entry_part item m.device.blocks e)

  -- an entry keeps it present
  pub enter_keeps : (next : Memories) → enter fill item m ≡ Some next → Found next.device.blocks s
  enter_keeps next e = go (entry item m.device.blocks) refl
    where
      go : (o : Option Move) → entry item m.device.blocks ≡ o → Found next.device.blocks s
      go None f = absurd (cc (sym (no_enter fill item m f) ∙ e))
      go (Some move) f =
          let g : Some (after fill item move m) ≡ Some next = sym (enters fill item move m f) ∙ e in
          let is : after fill item move m ≡ next = cc g in
          subst (λ (x : Memories). Found x.device.blocks s) is (blocks move.copies
          (move_keeps item m.device.blocks s h move f))
        where
          blocks : (b : Bool) → Found move.blocks s →
              Found (when b (copy_in item.section)
              (record { host = m.host; device = with_created fill move m.device })).device.blocks s
          blocks true k = k
          blocks false k = k

-- a copy and entries in turn
pub turn_swaps : (fill : Fill) (items : List MapItem) (s : Section) (m : Memories) → Found m.device.blocks s →
    in_turn (enter fill) items (copy_in s m) ≡ option_map (copy_in s) (in_turn (enter fill) items m)
turn_swaps fill [] s m h = refl
turn_swaps fill (item ∷ rest) s m h =
    ap (λ (o : Option Memories). elim o [ None ↦ None | Some next ↦ in_turn (enter fill) rest next ])
    (enter_swaps fill item s m h)
    ∙ go (enter fill item m) refl (λ next k. turn_swaps fill rest s next k)
  where
    go : (o : Option Memories) → enter fill item m ≡ o →
        ((next : Memories) → Found next.device.blocks s →
        in_turn (enter fill) rest (copy_in s next) ≡ option_map (copy_in s) (in_turn (enter fill) rest next)) →
        elim (option_map (copy_in s) o) [ None ↦ None | Some next ↦ in_turn (enter fill) rest next ]
        ≡ option_map (copy_in s) (elim o [ None ↦ None | Some next ↦ in_turn (enter fill) rest next ])
    go None e again = refl
    go (Some next) e again = again next (enter_keeps fill item s m h next e)

pub turn_keeps : (fill : Fill) (items : List MapItem) (s : Section) (m end : Memories) → Found m.device.blocks s →
    in_turn (enter fill) items m ≡ Some end → Found end.device.blocks s
turn_keeps fill [] s m end h e =
    let is : m ≡ end = cc e in subst (λ (x : Memories). Found x.device.blocks s) is h
turn_keeps fill (item ∷ rest) s m end h e = go (enter fill item m) refl
    (λ next k f. turn_keeps fill rest s next end k f)
  where
    go : (o : Option Memories) → enter fill item m ≡ o →
        ((next : Memories) → Found next.device.blocks s → in_turn (enter fill) rest next ≡ Some end →
        Found end.device.blocks s) →
        Found end.device.blocks s
    go None f again =
        absurd (cc (sym (ap (λ (o : Option Memories). elim o [
          | None ↦ None
          | Some next ↦ in_turn
              (enter fill) rest next
        ]) f) ∙ e))
    go (Some next) f again =
        again next (enter_keeps fill item s m h next f)
        (sym (ap (λ (o : Option Memories). elim o [ None ↦ None | Some next ↦ in_turn (enter fill) rest next ]) f)
        ∙ e)
