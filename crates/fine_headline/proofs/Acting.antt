-- An action keeps both memories sound: numbers below 2^64, and blocks that share no cell.
use Rattle.std.proofs.Common.{◌≡◌, ℕ, ◌+◌, ◌<◌, ◌≤◌, ◌^◌, Bool, true, false, List, map, Option, Some, None, refl, sym, ◌∙◌, ap, subst, arith}
use Rattle.std.specs.Prelude.{option_map, find, if◌then◌else◌}
use Rattle.std.proofs.lemmas.Bool.{cond_both}
use Rattle.base.specs.declared.item.Cell.{Cell}
use Rattle.base.specs.declared.item.Section.{Section}
use Rattle.base.specs.declared.item.MapItem.{MapItem}
use Rattle.base.specs.Value.{combined}
use Rattle.base.specs.Memory.{View, same_cell, is_cell, within, is_in, is_inside}
use Rattle.base.specs.Map.{Block, Memories, Fill, Move, Presence, Absent, Inside, InPart, presence, entry, exit_count, counted, without, when, with_blocks, with_cells}
use Rattle.base.proofs.Blocks.{meets, judge, presence_is, holder_absent, counted_apart, more_apart, fewer_apart}
use Rattle.base.proofs.Moves.{created_move, raised_move, entry_absent, entry_missing, entry_there, entry_part}
use Rattle.base.specs.Blocks.{AreApart, holder}
use Rattle.fine_machine.specs.Left.{Request, Load, Store, Combine, Enter, Leave, Remove, CopyIn, CopyOut, OnHost, OnDevice, Answer}
use Rattle.fine_machine.specs.Action.{act, on_cell, loaded, decided, with_host, with_device, lowered, removed}
use Rattle.regions.specs.Footprints.{BoundedView}
use Rattle.regions.proofs.Intervals.{combined_small}
use Rattle.regions.proofs.ValueBounds.{IfThere, Small, there_map, there_at, view_there}
use Rattle.two_memories.proofs.MapMoves.{within_yes, within_no}
use Rattle.two_memories.proofs.BoundedMemories.{BoundedMemories}
use Rattle.fine_headline.specs.FineState.{BoundedRequest}

pub record IsKept (m : Memories) : Type 0 where
  pub bounded : BoundedMemories m
  pub blocks : AreApart m.device.blocks

-- what an action gives, and the memories after it
abbrev pub IsActed : (Answer × Memories) → Type 0
IsActed p = (p.0.number < 2 ^ 64) × IsKept p.1

no_number : 0 < 2 ^ 64
no_number = omega arith

view_from : (v : View) → ((c : Cell) → IfThere Small (v c)) → BoundedView v
view_from v h c n e = there_at Small (v c) n (h c) e

host_put : (c : Cell) (n : ℕ) (m : Memories) → Small n → IsKept m → IsKept (with_host c n m)
host_put c n m h k = record {
  bounded =
      record {
        host = λ d. cond_both (same_cell c d) n (m.host d) Small (λ _. h) (λ _. k.bounded.host d);
        device =
            k.bounded.device;
      };
  blocks = k.blocks;
}

device_put : (c : Cell) (n : ℕ) (m : Memories) → Small n → IsKept m → IsKept (with_device c n m)
device_put c n m h k = record {
  bounded = record {
    host = k.bounded.host;
    device =
        view_from (λ d. if same_cell c d then Some n else m.device.cells d)
        (λ d. cond_both (same_cell c d) (Some n) (m.device.cells d) (IfThere Small) (λ _. h)
        (λ _. view_there m.device.cells k.bounded.device d));
  };
  blocks = k.blocks;
}

on_kept : (b : Bool) (p : Answer × Memories) → IsActed p → IfThere IsActed (on_cell b p)
on_kept true p h = h
on_kept false p h = tt

celled : (new : View) (s : Section) (m : Memories) → ((c : Cell) → IfThere Small (new c)) → BoundedMemories m →
    BoundedMemories (with_cells new s m)
celled new s m h k = record {
  host = k.host;
  device = view_from (within s new m.device.cells) (λ c. go (is_in c s) c refl);
}
  where
    go : (b : Bool) → (c : Cell) → is_in c s ≡ b → IfThere Small (within s new m.device.cells c)
    go true c e = subst (IfThere Small) (sym (within_yes s new m.device.cells c e)) (h c)
    go false c e =
        subst (IfThere Small) (sym (within_no s new m.device.cells c e)) (view_there m.device.cells k.device c)

blocked : (bs : List Block) (m : Memories) → BoundedMemories m → BoundedMemories (with_blocks bs m)
blocked bs m h = record { host = h.host; device = h.device }

-- where a section lies
pub data Lies (blocks : List Block) (s : Section) : Type 0 where
  nowhere : presence blocks s ≡ Absent → ((c : Cell) → is_in c s ≡ true → holder blocks c ≡ None) → Lies blocks s
  inside : (b : Block) → presence blocks s ≡ Inside b → find (meets s) blocks ≡ Some b → is_inside s b.section ≡ true →
      Lies blocks s
  in_part : presence blocks s ≡ InPart → Lies blocks s

pub lies : (blocks : List Block) (s : Section) → Lies blocks s
lies blocks s = go (find (meets s) blocks) refl
  where
    found : (b : Block) (i : Bool) → find (meets s) blocks ≡ Some b → is_inside s b.section ≡ i → Lies blocks s
    found b true e i =
        inside b (presence_is blocks s ∙ (ap (judge s) e ∙ ap (λ x. if x then Inside b else InPart) i)) e i
    found b false e i = in_part (presence_is blocks s ∙ (ap (judge s) e ∙ ap (λ x. if x then Inside b else InPart) i))

    go : (o : Option Block) → find (meets s) blocks ≡ o → Lies blocks s
    go None e = nowhere (presence_is blocks s ∙ ap (judge s) e) (λ c i. holder_absent blocks s c e i)
    go (Some b) e = found b (is_inside s b.section) e refl

enter_kept : (lengths : List ℕ) (fill : Fill) (item : MapItem) (m : Memories) → ((c : Cell) → fill c < 2 ^ 64) →
    1 ≤ item.section.length → IsKept m → IfThere IsActed (act lengths fill (Enter item) m)
enter_kept lengths fill item m f size k = go (lies m.device.blocks item.section)
  where
    Done : Option Move → Type 0
    Done o =
        IfThere IsActed (option_map (λ move. (
          decided move.copies false,
          when move.changes (with_cells (λ c. Some (fill c)) move.block) (with_blocks move.blocks m),
        )) o)

    go : Lies m.device.blocks item.section → Done (entry item m.device.blocks)
    go (nowhere e free) = by item.present refl
      where
        by : (b : Bool) → item.present ≡ b → Done (entry item m.device.blocks)
        by true q = subst Done (sym (entry_missing item m.device.blocks e q)) tt
        by false q =
            subst Done (sym (entry_absent item m.device.blocks e q)) (
              no_number,
              record {
                bounded =
                    celled (λ c. Some (fill c)) item.section (with_blocks (created_move item m.device.blocks).blocks m)
                    f (blocked (created_move item m.device.blocks).blocks m k.bounded);
                blocks = more_apart m.device.blocks (record { section = item.section; count = 1 }) k.blocks size free;
              },
            )
    go (inside b e _ _) =
        subst Done (sym (entry_there item m.device.blocks b e)) (
          no_number,
          record {
            bounded = blocked (raised_move item b m.device.blocks).blocks m k.bounded;
            blocks =
                counted_apart m.device.blocks b.section (b.count + 1) k.blocks;
          },
        )
    go (in_part e) = subst Done (sym (entry_part item m.device.blocks e)) tt

leave_kept : (item : MapItem) (m : Memories) → IsKept m → IfThere IsActed (lowered item m)
leave_kept item m k = go (presence m.device.blocks item.section) refl
  where
    go : (p : Presence) → presence m.device.blocks item.section ≡ p → IfThere IsActed (lowered item m)
    go Absent e = rw (e, lowered) (no_number, k)
    go (Inside b) e =
        rw (e, lowered) (
          no_number,
          record {
            bounded = blocked
                (map (counted b.section (exit_count item.kind b.count)) m.device.blocks) m k.bounded;
            blocks =
                counted_apart m.device.blocks b.section (exit_count item.kind b.count) k.blocks;
          },
        )
    go InPart e = rw (e, lowered) tt

remove_kept : (s : Section) (m : Memories) → IsKept m → IsKept (removed s m)
remove_kept s m k = go (presence m.device.blocks s) refl
  where
    go : (p : Presence) → presence m.device.blocks s ≡ p → IsKept (removed s m)
    go Absent e = rw (e, removed) k
    go (Inside b) e =
        rw (e, removed) (record {
          bounded =
              blocked (without m.device.blocks b.section) (with_cells (λ c. None) b.section m)
              (celled (λ c. None) b.section m (λ c. tt) k.bounded);
          blocks = fewer_apart m.device.blocks b.section k.blocks;
        })
    go InPart e = rw (e, removed) k

pub act_kept : (lengths : List ℕ) (fill : Fill) (r : Request) (m : Memories) → ((c : Cell) → fill c < 2 ^ 64) →
    BoundedRequest r → IsKept m → IfThere IsActed (act lengths fill r m)
act_kept lengths fill (Load OnHost c) m f b k = on_kept (is_cell lengths c) (loaded (m.host c), m) (k.bounded.host c, k)
act_kept lengths fill (Load OnDevice c) m f b k =
    there_map Small IsActed (λ n. (loaded n, m)) (m.device.cells c) (λ n h. (h, k))
    (view_there m.device.cells k.bounded.device c)
act_kept lengths fill (Store OnHost c n) m f b k =
    on_kept (is_cell lengths c) (loaded 0, with_host c n m) (no_number, host_put c n m b k)
act_kept lengths fill (Store OnDevice c n) m f b k =
    there_map Small IsActed (λ old. (loaded 0, with_device c n m)) (m.device.cells c)
    (λ old h. (no_number, device_put c n m b k)) (view_there m.device.cells k.bounded.device c)
act_kept lengths fill (Combine OnHost op c n) m f b k =
    on_kept (is_cell lengths c) (loaded 0, with_host c (combined op (m.host c) n) m) (
      no_number,
      host_put c (combined op (m.host c) n) m (combined_small op (m.host c) n (k.bounded.host c) b) k,
    )
act_kept lengths fill (Combine OnDevice op c n) m f b k =
    there_map Small IsActed (λ old. (loaded 0, with_device c (combined op old n) m)) (m.device.cells c)
    (λ old h. (no_number, device_put c (combined op old n) m (combined_small op old n h b) k))
    (view_there m.device.cells k.bounded.device c)
act_kept lengths fill (Enter item) m f b k = enter_kept lengths fill item m f b k
act_kept lengths fill (Leave item) m f b k = leave_kept item m k
act_kept lengths fill (Remove s) m f b k = (no_number, remove_kept s m k)
act_kept lengths fill (CopyIn c) m f b k =
    there_map Small IsActed (λ old. (loaded 0, with_device c (m.host c) m)) (m.device.cells c)
    (λ old h. (no_number, device_put c (m.host c) m (k.bounded.host c) k))
    (view_there m.device.cells k.bounded.device c)
act_kept lengths fill (CopyOut c) m f b k =
    there_map Small IsActed (λ n. (loaded 0, with_host c n m)) (m.device.cells c)
    (λ n h. (no_number, host_put c n m h k)) (view_there m.device.cells k.bounded.device c)
