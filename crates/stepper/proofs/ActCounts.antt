-- How often blocks were entered, after a single action.
use Rattle.std.proofs.Common.{◌≡◌, ◌+◌, ℕ, Bool, true, false, List, Some, None, refl, sym, ◌∙◌, subst, map, arith}
use Rattle.std.specs.Prelude.{◌==◌}
use Rattle.std.proofs.lemmas.Option.{none-some, same_Some}
use Rattle.base.specs.declared.item.MapItem.{MapItem}
use Rattle.base.specs.declared.item.Section.{Section}
use Rattle.base.specs.Map.{Fill, Memories, Move, Presence, Absent, Inside, InPart, counted, entry, exit_copies, exit_count, presence, when, with_blocks, with_cells, without}
use Rattle.base.specs.Memory.{View, is_cell}
use Rattle.base.specs.Value.{combined}
use Rattle.fine_machine.specs.Action.{act, decided, loaded, lowered, on_cell, removed, with_device, with_host}
use Rattle.fine_machine.specs.Left.{Answer, Request, OnHost, OnDevice, Load, Store, Combine, Enter, Leave, Remove, CopyIn, CopyOut}
use Rattle.fine_headline.proofs.Walks.{of_map}
use Rattle.mapwalk.proofs.Recounts.{exit_low}
use Rattle.device.specs.Moves.{CountsAtMost}
use Rattle.device.proofs.Counts.{entry_blocks, fewer, inside, recounted}

-- how many map items were entered, after a request
abbrev pub entered_after : Request → ℕ → ℕ
entered_after (Enter item) n = n + 1
entered_after (Load side c) n = n
entered_after (Store side c v) n = n
entered_after (Combine side op c v) n = n
entered_after (Leave item) n = n
entered_after (Remove s) n = n
entered_after (CopyIn c) n = n
entered_after (CopyOut c) n = n

of_cell : (b : Bool) (x y : Answer × Memories) → on_cell {A = Answer × Memories} b x ≡ Some y → x ≡ y
of_cell true x y e = same_Some x y e
of_cell false x y e = absurd (none-some y e)

when_celled : (b : Bool) (v : View) (s : Section) (m : Memories) → (when b (with_cells v s) m).device.blocks ≡ m.device.blocks
when_celled true v s m = refl
when_celled false v s m = refl

module _ (n : ℕ) (m : Memories) (p : Answer × Memories) (low : CountsAtMost n m.device.blocks) where
  -- the blocks are those of what the action gives
  by : (most : ℕ) (q : Answer × Memories) → q ≡ p → CountsAtMost most q.1.device.blocks → CountsAtMost most p.1.device.blocks
  by most q e h = subst (λ (x : Answer × Memories). CountsAtMost most x.1.device.blocks) e h

  entered : (fill : Fill) (item : MapItem) (lengths : List ℕ) → act lengths fill (Enter item) m ≡ Some p →
      CountsAtMost (n + 1) p.1.device.blocks
  entered fill item lengths e =
      let w = of_map (λ (move : Move). (
        decided move.copies false,
        when move.changes (with_cells (λ c. Some (fill c)) move.block) (with_blocks move.blocks m),
      )) (entry item m.device.blocks) p e in
      by (n + 1) _ w.2
      (subst (CountsAtMost (n + 1)) (sym (when_celled w.0.changes (λ c. Some (fill c)) w.0.block (with_blocks w.0.blocks m)))
      (entry_blocks n item m.device.blocks w.0 low w.1))

  left : (item : MapItem) → lowered item m ≡ Some p → CountsAtMost n p.1.device.blocks
  left item e = go (presence m.device.blocks item.section) refl
    where
      go : (q : Presence) → presence m.device.blocks item.section ≡ q → CountsAtMost n p.1.device.blocks
      go Absent k =
          let is : lowered item m ≡ Some (decided false false, m) = rw (k, lowered) refl in
          by n (decided false false, m) (same_Some (decided false false, m) p (sym is ∙ e)) low
      go (Inside b) k =
          let count = exit_count item.kind b.count in
          let next : Answer × Memories = (
            decided (exit_copies item count) (count == 0),
            with_blocks (map (counted b.section count) m.device.blocks) m,
          ) in
          let is : lowered item m ≡ Some next = rw (k, lowered) refl in
          let small = inside n m.device.blocks item.section b low k in
          let less = exit_low item.kind b.count in
          by n next (same_Some next p (sym is ∙ e)) (recounted n count b.section m.device.blocks low (omega arith))
      go InPart k = absurd (none-some p (let is : lowered item m ≡ None = rw (k, lowered) refl in sym is ∙ e))

  gone : (s : Section) → (loaded 0, removed s m) ≡ p → CountsAtMost n p.1.device.blocks
  gone s e = by n (loaded 0, removed s m) e (go (presence m.device.blocks s) refl)
    where
      go : (q : Presence) → presence m.device.blocks s ≡ q → CountsAtMost n (removed s m).device.blocks
      go Absent k =
          let is : removed s m ≡ m = rw (k, removed) refl in
          subst (λ (x : Memories). CountsAtMost n x.device.blocks) (sym is) low
      go (Inside b) k =
          let next = with_blocks (without m.device.blocks b.section) (with_cells (λ c. None) b.section m) in
          let is : removed s m ≡ next = rw (k, removed) refl in
          subst (λ (x : Memories). CountsAtMost n x.device.blocks) (sym is) (fewer n b.section m.device.blocks low)
      go InPart k =
          let is : removed s m ≡ m = rw (k, removed) refl in
          subst (λ (x : Memories). CountsAtMost n x.device.blocks) (sym is) low

  -- an entry is one more, and each other action none
  pub counted_after : (lengths : List ℕ) (fill : Fill) (request : Request) → act lengths fill request m ≡ Some p →
      CountsAtMost (entered_after request n) p.1.device.blocks
  counted_after lengths fill (Load OnHost c) e =
      by n _ (of_cell (is_cell lengths c) (loaded (m.host c), m) p e) low
  counted_after lengths fill (Load OnDevice c) e =
      by n _ (of_map (λ n. (loaded n, m)) (m.device.cells c) p e).2 low
  counted_after lengths fill (Store OnHost c v) e =
      by n _ (of_cell (is_cell lengths c) (loaded 0, with_host c v m) p e) low
  counted_after lengths fill (Store OnDevice c v) e =
      by n _ (of_map (λ old. (loaded 0, with_device c v m)) (m.device.cells c) p e).2 low
  counted_after lengths fill (Combine OnHost op c v) e =
      by n _ (of_cell (is_cell lengths c) (loaded 0, with_host c (combined op (m.host c) v) m) p e) low
  counted_after lengths fill (Combine OnDevice op c v) e =
      by n _ (of_map (λ old. (loaded 0, with_device c (combined op old v) m)) (m.device.cells c) p e).2 low
  counted_after lengths fill (Enter item) e = entered fill item lengths e
  counted_after lengths fill (Leave item) e = left item e
  counted_after lengths fill (Remove s) e = gone s (same_Some (loaded 0, removed s m) p e)
  counted_after lengths fill (CopyIn c) e =
      by n _ (of_map (λ old. (loaded 0, with_device c (m.host c) m)) (m.device.cells c) p e).2 low
  counted_after lengths fill (CopyOut c) e =
      by n _ (of_map (λ v. (loaded 0, with_host c v m)) (m.device.cells c) p e).2 low
