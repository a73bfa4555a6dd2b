-- After entries each cell of their sections has storage.
use Rattle.std.proofs.Common.{◌≡◌, ◌⊎◌, ℕ, ◌+◌, Bool, true, false, List, [], ◌∷◌, ◌++◌, map, Option, Some, None, refl, sym, ap, ◌∙◌, inl, inr, true≢false, subst}
use Rattle.std.specs.Prelude.{IsSome, ◌||◌, is_some, option_map, option_and_then}
use Rattle.std.specs.List.{list_any}
use Rattle.std.proofs.lemmas.Bool.{cases_Bool}
use Rattle.base.specs.declared.item.Cell.{Cell}
use Rattle.base.specs.declared.item.Section.{Section}
use Rattle.base.specs.declared.item.MapItem.{MapItem}
use Rattle.base.specs.Memory.{is_in}
use Rattle.base.specs.Map.{Block as Present, Device, Fill, Memories, Move, Presence, Absent, Inside, InPart, presence, counted, entry, enter, in_turn, copy_in, when}
use Rattle.present.specs.declared.Table.{Table}
use Rattle.present.specs.declared.block.Block.{Block}
use Rattle.present.specs.Blocks.{are_stored, has, number_in, present, stored_at}
use Rattle.base.specs.Blocks.{holder}
use Rattle.present.specs.Table.{Shows, with_created}
use Rattle.base.proofs.Blocks.{holder_counted, holder_inside, holder_none, holder_some}
use Rattle.present.proofs.Finds.{find_yes, find_no}
use Rattle.base.proofs.Moves.{copied_blocks, created_move, raised_move, entry_absent, entry_missing, entry_there, entry_part}
use Rattle.present.proofs.Orders.{Stored, parts, stored_parts}
use Rattle.present.proofs.Rules.{enters}
use Rattle.present.proofs.Shown.{stored_has}
use Rattle.present.proofs.Storing.{number_there}
use Rattle.present.proofs.Turns.{found, no_enter}
use Rattle.frames.specs.Laws.{EntriesGiveStorage}

-- a block has the cell
abbrev IsHeld : List Present → Cell → Type 0
IsHeld blocks c = IsSome (holder blocks c)

held_with : (o p : Option Present) → p ≡ o → IsSome o → IsSome p
held_with o p e h = subst (λ (x : Option Present). IsSome x) (sym e) h

-- with a block more
pushed_old : (blocks : List Present) (b : Present) (c : Cell) → IsHeld blocks c → IsHeld (blocks ++ b ∷ []) c
pushed_old blocks b c h = go (holder blocks c) refl h
  where
    go : (o : Option Present) → holder blocks c ≡ o → IsSome o → IsHeld (blocks ++ b ∷ []) c
    go None e k = absurd (cc k)
    go (Some x) e k = held_with (Some x) (holder (blocks ++ b ∷ []) c) (holder_some blocks b c x e) k

pushed_new : (blocks : List Present) (b : Present) (c : Cell) → is_in c b.section ≡ true → IsHeld (blocks ++ b ∷ []) c
pushed_new blocks b c i = go (holder blocks c) refl
  where
    go : (o : Option Present) → holder blocks c ≡ o → IsHeld (blocks ++ b ∷ []) c
    go None e =
        held_with (Some b) (holder (blocks ++ b ∷ []) c)
        (holder_none blocks b c e ∙ find_yes (λ (x : Present). is_in c x.section) b [] i) refl
    go (Some x) e = held_with (Some x) (holder (blocks ++ b ∷ []) c) (holder_some blocks b c x e) refl

-- with a block counted
counted_held : (blocks : List Present) (s : Section) (n : ℕ) (c : Cell) → IsHeld blocks c →
    IsHeld (map (counted s n) blocks) c
counted_held blocks s n c h = go (holder blocks c) refl h
  where
    go : (o : Option Present) → holder blocks c ≡ o → IsSome o → IsHeld (map (counted s n) blocks) c
    go None e k = absurd (cc k)
    go (Some x) e k =
        held_with (Some (counted s n x)) (holder (map (counted s n) blocks) c)
        (holder_counted blocks s n c ∙ ap (option_map (counted s n)) e) refl

-- what an entry does to the blocks
record Holds (s : Section) (before after : List Present) : Type 0 where
  old : (c : Cell) → IsHeld before c → IsHeld after c
  new : (c : Cell) → is_in c s ≡ true → IsHeld after c

entry_holds : (item : MapItem) (blocks : List Present) (move : Move) → entry item blocks ≡ Some move →
    Holds item.section blocks move.blocks
entry_holds item blocks move h = go (presence blocks item.section) refl
  where
    is : (other : Move) → entry item blocks ≡ Some other → Holds item.section blocks other.blocks →
        Holds item.section blocks move.blocks
    is other e k =
        let f : ◌≡◌ {A = Option Move} (Some other) (Some move) = sym e ∙ h in
        let same : other ≡ move = cc f in
        subst (λ (m : Move). Holds item.section blocks m.blocks) same k

    go : (p : Presence) → presence blocks item.section ≡ p → Holds item.section blocks move.blocks
    go Absent e = by item.present refl
      where
        by : (q : Bool) → item.present ≡ q → Holds item.section blocks move.blocks
        by true q = absurd (cc (sym (entry_missing item blocks e q) ∙ h))
        by false q =
            is (created_move item blocks) (entry_absent item blocks e q) (record {
              old = λ c k. pushed_old blocks (record { section = item.section; count = 1 }) c k;
              new = λ c i. pushed_new blocks (record { section = item.section; count = 1 }) c i;
            })
    go (Inside b) e =
        let f = found blocks item.section b e in
        is (raised_move item b blocks) (entry_there item blocks b e) (record {
          old = λ c k. counted_held blocks b.section (b.count + 1) c k;
          new = λ c i. counted_held blocks b.section (b.count + 1) c (held_with (Some f.block) (holder blocks c)
              (holder_inside blocks item.section f.block c f.is f.inside i) refl);
        })
    go InPart e = absurd (cc (sym (entry_part item blocks e) ∙ h))

enter_holds : (fill : Fill) (item : MapItem) (m next : Memories) → enter fill item m ≡ Some next →
    Holds item.section m.device.blocks next.device.blocks
enter_holds fill item m next h = go (entry item m.device.blocks) refl
  where
    go : (o : Option Move) → entry item m.device.blocks ≡ o → Holds item.section m.device.blocks next.device.blocks
    go None e = absurd (cc (sym (no_enter fill item m e) ∙ h))
    go (Some move) e =
        let f : ◌≡◌ {A = Option Memories} (Some (when move.copies (copy_in item.section)
        (record { host = m.host; device = with_created fill move m.device }))) (Some next) =
        sym (enters fill item move m e) ∙ h in
        let same : when move.copies (copy_in item.section)
        (record { host = m.host; device = with_created fill move m.device }) ≡ next = cc f in
        let blocks : move.blocks ≡ next.device.blocks =
        sym (copied_blocks move.copies item.section
        (record { host = m.host; device = with_created fill move m.device }))
        ∙ ap (λ (x : Memories). x.device.blocks) same in
        subst (Holds item.section m.device.blocks) blocks (entry_holds item m.device.blocks move e)

record HoldsAll (maps : List MapItem) (before after : List Present) : Type 0 where
  old : (c : Cell) → IsHeld before c → IsHeld after c
  new : (c : Cell) → list_any (λ (m : MapItem). is_in c m.section) maps ≡ true → IsHeld after c

turn_holds : (fill : Fill) (maps : List MapItem) (m after : Memories) → in_turn (enter fill) maps m ≡ Some after →
    HoldsAll maps m.device.blocks after.device.blocks
turn_holds fill [] m after h =
    let f : ◌≡◌ {A = Option Memories} (Some m) (Some after) = h in
    let same : m ≡ after = cc f in
    record {
      old = λ c k. subst (λ (x : Memories). IsHeld x.device.blocks c) same k;
      new = λ c e. absurd (true≢false (sym e));
    }
turn_holds fill (item ∷ rest) m after h =
    go (λ next e. turn_holds fill rest next after e) (enter fill item m) refl
  where
    go : ((next : Memories) → in_turn (enter fill) rest next ≡ Some after →
        HoldsAll rest next.device.blocks after.device.blocks) →
        (o : Option Memories) → enter fill item m ≡ o →
        HoldsAll (item ∷ rest) m.device.blocks after.device.blocks
    go again None e = absurd (cc (sym (ap (λ o. elim o [ None ↦ None | Some next ↦ in_turn (enter fill) rest next ]) e) ∙ h))
    go again (Some next) e =
        let k = again next (sym (ap (λ o. elim o [ None ↦ None | Some next ↦ in_turn (enter fill) rest next ]) e) ∙ h) in
        let one = enter_holds fill item m next e in
        record {
          old = λ c x. k.old c (one.old c x);
          new = λ c x. new k one c (is_in c item.section) refl x;
        }
      where
        new : HoldsAll rest next.device.blocks after.device.blocks → Holds item.section m.device.blocks next.device.blocks →
            (c : Cell) (t : Bool) → is_in c item.section ≡ t →
            list_any (λ (m : MapItem). is_in c m.section) (item ∷ rest) ≡ true → IsHeld after.device.blocks c
        new k one c true f x = k.old c (one.new c f)
        new k one c false f x =
            k.new c (ap (λ t. t || list_any (λ (m : MapItem). is_in c m.section) rest) (sym f) ∙ x)

-- A table's blocks have a number for each cell.

stored_of : (bs : List Block) (c : Cell) (b : Block) → are_stored bs ≡ true → stored_at bs c ≡ Some b → Stored b
stored_of [] c b ok e = absurd (cc e)
stored_of (x ∷ bs) c b ok e = go (λ f. stored_of bs c b (parts x bs ok).others f) (cases_Bool (has c x))
  where
    go : (stored_at bs c ≡ Some b → Stored b) → (has c x ≡ true) ⊎ (has c x ≡ false) → Stored b
    go again (inl t) =
        let f : ◌≡◌ {A = Option Block} (Some x) (Some b) = sym (find_yes (has c) x bs t) ∙ e in
        let is : x ≡ b = cc f in
        subst Stored is (stored_parts x (parts x bs ok).first)
    go again (inr t) = again (sym (find_no (has c) x bs t) ∙ e)

pub held_has_number : (t : Table) (d : Device) (c : Cell) → Shows t d → IsSome (holder d.blocks c) → IsSome (d.cells c)
held_has_number t d c shows h = go (stored_at t.blocks.items c) refl
  where
    go : (o : Option Block) → stored_at t.blocks.items c ≡ o → IsSome (d.cells c)
    go None e = absurd (true≢false (sym h ∙ ap is_some (shows.blocks c ∙ ap (option_map present) e)))
    go (Some b) e =
        ap is_some (shows.numbers c ∙ ap (option_and_then (number_in c)) e)
        ∙ number_there b c (stored_of t.blocks.items c b t.stored e) (stored_has t.blocks.items c b e)

pub entries_give_storage : EntriesGiveStorage
entries_give_storage fill maps m after t h shows c e =
    held_has_number t after.device c shows ((turn_holds fill maps m after h).new c e)
