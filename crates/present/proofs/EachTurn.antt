-- One of several entries.
use Rattle.std.proofs.Common.{◌≡◌, ℕ, ◌+◌, ◌<◌, Bool, true, false, List, ◌∷◌, length, Option, Some, None, refl, sym, ◌∙◌, ap, subst, arith}
use Rattle.std.specs.Prelude.{IsSomeAnd, option_map, if◌then◌else◌}
use Rattle.base.specs.declared.item.MapItem.{MapItem}
use Rattle.base.specs.declared.fault.RunFault.{RunFault}
use Rattle.base.specs.declared.fault.RunFault.TheVariants as fault
use Rattle.host_memory.specs.declared.memory.Memory.{Memory as Arrays}
use Rattle.host_memory.specs.Arrays.{memory_of}
use Rattle.base.specs.Map.{Block as Present, Device, Memories, Move, Inside, presence, entry, enter, in_turn, copy_in, when, created, blocks_after, need}
use Rattle.present.specs.declared.Table.{Table}
use Rattle.present.specs.Blocks.{IsSection, present}
use Rattle.present.specs.Change.{IsCountedAt, IsCountFault, IsOver, IsRefused}
use Rattle.present.specs.Table.{Shows, Are, Does, Fails, CountsFit, SomeRoom, IsPartFault, capacity_of, fill_of, first_cell, memories, with_created, with_host, with_host_if}
use Rattle.present.proofs.Entries.{is_absent_at, is_inside_at, opens_entry, opens_used, opens_shown, raises_entry, raises_shown, recount_used}
use Rattle.present.proofs.Undone.{count_grows}
use Rattle.base.proofs.Moves.{entry_absent}
use Rattle.present.proofs.Rules.{done, done_inside, enters, no_enter}
use Rattle.present.proofs.Turns.{Found, found, present_from, turn_swaps, turn_keeps}

-- what the first of several entries needs
need_step : (item : MapItem) (rest : List MapItem) (blocks : List Present) (move : Move) →
    entry item blocks ≡ Some move →
    need (item ∷ rest) blocks ≡ (if move.changes then move.block.length else 0) + need rest move.blocks
need_step item rest blocks move e = ap (λ (o : Option Move). created o + need rest (blocks_after blocks o)) e

-- where an entry does not fit, several from it on do not
no_room : (t : Table) (item : MapItem) (rest : List MapItem) → IsSection item.section → SomeRoom t (item ∷ rest) →
    IsOver t item → ⊥
no_room t item rest w r h =
    let e = need_step item rest r.device.blocks _
    (entry_absent item r.device.blocks (is_absent_at t item.section w h.at h.absent r.device r.shown)
    h.without_present) in
    let room = r.room in
    let over = h.over in
    omega (arith, e, room, over)

pub part_fault : (t : Table) (item : MapItem) (rest : List MapItem) (P : Type 0) → IsSection item.section →
    SomeRoom t (item ∷ rest) → (IsRefused t item → P) → (f : RunFault) → IsCountFault t item f →
    IsPartFault P f
part_fault t item rest P w r part fault.OutOfMemory h = tt
part_fault t item rest P w r part fault.DeviceFull h = no_room t item rest w r h
part_fault t item rest P w r part fault.Absent h = part h
part_fault t item rest P w r part fault.Stranger h = h
part_fault t item rest P w r part fault.ThreadNotStarted h = h
part_fault t item rest P w r part fault.OtherState h = h
part_fault t item rest P w r part fault.RangeRefused h = h

pub later_fault : (P Q : Type 0) → (P → Q) → (f : RunFault) → IsPartFault P f → IsPartFault Q f
later_fault P Q g fault.OutOfMemory h = tt
later_fault P Q g fault.DeviceFull h = h
later_fault P Q g fault.Absent h = g h
later_fault P Q g fault.Stranger h = h
later_fault P Q g fault.ThreadNotStarted h = h
later_fault P Q g fault.OtherState h = h
later_fault P Q g fault.RangeRefused h = h

pub no_first : (t : Table) (item : MapItem) (rest : List MapItem) (host : Arrays) → IsSection item.section →
    IsRefused t item → Fails (in_turn (enter (fill_of t)) (item ∷ rest)) t host
no_first t item rest host w h d sh =
    ap (λ (o : Option Memories). elim o [ None ↦ None | Some next ↦ in_turn (enter (fill_of t)) rest next ])
    (no_enter t item host w h d sh)

module _ (old new : Table) (item : MapItem) (n : ℕ) (copied : Bool) (w : IsSection item.section) where
  pub counts_left : (creates : Bool) → IsCountedAt old new item n copied creates → (items : List MapItem) (from : ℕ) →
      from < length items → CountsFit old items from → CountsFit new items (from + 1)
  counts_left creates h items from l fit k one below e =
      let was = fit k one (omega arith) e in
      let grows = count_grows old new item n copied w creates h (first_cell one.section) in
      omega (arith, was, grows)

  pub room_left : (creates : Bool) → IsCountedAt old new item n copied creates → capacity_of new ≡ capacity_of old →
      (rest : List MapItem) → SomeRoom old (item ∷ rest) → SomeRoom new rest
  room_left true h cap rest r =
      let e = need_step item rest r.device.blocks _ (opens_entry old new item n copied w h r.device r.shown) in
      let used = opens_used old new item n copied w h r.device r.shown in
      let room = r.room in
      record {
        device = _;
        shown = opens_shown old new item n copied w h r.device r.shown;
        room = omega (arith, e, used, room, cap);
      }
  room_left false h cap rest r =
      let e = need_step item rest r.device.blocks _ (raises_entry old new item n copied w h r.device r.shown) in
      let used = recount_used old new n (h.before.count + 1) h.before h.is h.blocks r.device r.shown in
      let room = r.room in
      record {
        device = _;
        shown = raises_shown old new item n copied w h r.device r.shown;
        room = omega (arith, e, used, room, cap);
      }

  module _ (creates : Bool) (h : IsCountedAt old new item n copied creates) (host : Arrays) (rest : List MapItem)
      (d : Device)
      (sh : Shows old d) where
    first : enter (fill_of old) item (memories host d) ≡ Some (when copied (copy_in item.section)
        (memories host (with_created (fill_of old) (done old new item n copied w creates h d sh).move d)))
    first =
        let k = done old new item n copied w creates h d sh in
        enters (fill_of old) item k.move (memories host d) k.is
        ∙ ap (λ b. Some (when b (copy_in item.section) (memories host (with_created
        (fill_of old) k.move d)))) k.copies

    there : Found (with_created (fill_of old)
        (done old new item n copied w creates h d sh).move d).blocks item.section
    there =
        let k = done old new item n copied w creates h d sh in
        let i = done_inside old new item n copied w creates h in
        found (with_created (fill_of old) k.move d).blocks item.section (present i.block)
        (is_inside_at new item.section w n i.block i.is i.inside (with_created (fill_of old) k.move d) k.shown)

    turn : in_turn (enter (fill_of old)) (item ∷ rest) (memories host d)
        ≡ in_turn (enter (fill_of old)) rest (when copied (copy_in item.section)
        (memories host (with_created (fill_of old) (done old new item n copied w creates h d sh).move d)))
    turn = ap (λ (o : Option Memories). elim o [
      | None ↦ None
      | Some next ↦ in_turn (enter
          (fill_of old)) rest next
    ]) first

    late : (b : Bool) → in_turn (enter (fill_of old)) rest (when b (copy_in item.section)
        (memories host (with_created (fill_of old) (done old new item n copied w creates h d sh).move d)))
        ≡ option_map (when b (copy_in item.section)) (in_turn (enter (fill_of old)) rest
        (memories host (with_created (fill_of old) (done old new item n copied w creates h d sh).move d)))
    late true = turn_swaps (fill_of old) rest item.section
        (memories host (with_created (fill_of old) (done old new item n copied w creates h d sh).move d)) there
    late false = same (in_turn (enter (fill_of old)) rest
        (memories host (with_created (fill_of old) (done old new item n copied w creates h d sh).move d)))
      where
        same : (o : Option Memories) → o ≡ option_map (when false (copy_in item.section)) o
        same None = refl
        same (Some m) = refl

    pub turn_fails : fill_of new ≡ fill_of old → Fails (in_turn (enter (fill_of new)) rest) new host →
        in_turn (enter (fill_of old)) (item ∷ rest) (memories host d) ≡ None
    turn_fails fill fails =
        let k = done old new item n copied w creates h d sh in
        turn ∙ late copied
        ∙ ap (option_map (when copied (copy_in item.section)))
        (ap (λ f. in_turn (enter f) rest (memories host (with_created (fill_of old) k.move d))) (sym fill)
        ∙ fails (with_created (fill_of old) k.move d) k.shown)

    pub turn_done : fill_of new ≡ fill_of old → (mid end : Table) →
        Does (in_turn (enter (fill_of new)) rest) new host mid host →
        ((x : Device) (b : Present) → Shows mid x → presence x.blocks item.section ≡ Inside b →
        Shows end (with_host_if copied item.section (memory_of host) x)) →
        IsSomeAnd (in_turn (enter (fill_of old)) (item ∷ rest) (memories host d)) (Are host end)
    turn_done fill mid end does brought =
        go (in_turn (enter (fill_of old)) rest (memories host (with_created (fill_of old)
        (done old new item n copied w creates h d sh).move d))) refl
        (subst (λ f. IsSomeAnd (in_turn (enter f) rest (memories host (with_created (fill_of old)
        (done old new item n copied w creates h d sh).move d))) (Are host mid)) fill
        (does (with_created (fill_of old) (done old new item n copied w creates h d sh).move d)
        (done old new item n copied w creates h d sh).shown))
      where
        are : (b : Bool) (m : Memories) → Are host mid m →
            Shows end (with_host_if b item.section (memory_of host) m.device) →
            Are host end (when b (copy_in item.section) m)
        are true m a s = record {
          host = a.host;
          shown = subst (λ x. Shows end (with_host item.section x m.device)) (sym a.host) s;
        }
        are false m a s = record { host = a.host; shown = s }

        go : (o : Option Memories) →
            in_turn (enter (fill_of old)) rest
            (memories host (with_created (fill_of old) (done old new item n copied w creates h d sh).move d)) ≡ o →
            IsSomeAnd o (Are host mid) →
            IsSomeAnd (in_turn (enter (fill_of old)) (item ∷ rest) (memories host d)) (Are host end)
        go None e a = absurd a
        go (Some m) e a =
            let f = turn_keeps (fill_of old) rest item.section
            (memories host (with_created (fill_of old)
            (done old new item n copied w creates h d sh).move d)) m there e in
            subst (λ o. IsSomeAnd o (Are host end))
            (sym (turn ∙ late copied ∙ ap (option_map (when copied (copy_in item.section))) e))
            (are copied m a (brought m.device f.block a.shown (present_from m.device.blocks item.section f)))
