-- A table that looks the same, and a host memory with the same numbers.
use Rattle.std.proofs.Common.{◌≡◌, ℕ, sym, ◌∙◌, ap, Option, Some, None}
use Rattle.std.specs.Prelude.{IsSomeAnd, slice_get}
use Rattle.base.specs.declared.item.Section.{Section}
use Rattle.base.specs.Map.{Device, Memories}
use Rattle.host_memory.specs.declared.memory.Memory.{Memory as Arrays}
use Rattle.host_memory.specs.Arrays.{memory_of}
use Rattle.present.specs.declared.Table.{Table}
use Rattle.present.specs.declared.block.Block.{Block}
use Rattle.present.specs.Blocks.{IsSection}
use Rattle.present.specs.Change.{IsCountAt, blocks_of}
use Rattle.present.specs.Found.{IsInsideAt}
use Rattle.present.specs.Table.{Are, IsUnchanged, Shows, first_cell}
use Rattle.present.proofs.Entries.{count_here}
use Rattle.present.proofs.Founds.{one_block}

-- what a table shows is told by what is seen of it
pub shows_unchanged : (t t' : Table) → IsUnchanged t t' → (d : Device) → Shows t d → Shows t' d
shows_unchanged t t' u d h = record {
  apart = h.apart;
  blocks = λ c. h.blocks c ∙ sym (ap (λ f. f c) u.blocks);
  numbers = λ c. h.numbers c ∙ sym (ap (λ f. f c) u.numbers);
  in_use = h.in_use ∙ sym u.in_use;
}

pub unchanged_back : (t t' : Table) → IsUnchanged t t' → IsUnchanged t' t
unchanged_back t t' u = record {
  blocks = sym u.blocks;
  numbers = sym u.numbers;
  in_use = sym u.in_use;
  capacity = sym u.capacity;
  fill = sym u.fill;
}

-- what a host and a table show, another host with the same numbers shows
pub same_host : (o : Option Memories) (host after : Arrays) (t : Table) → memory_of after ≡ memory_of host →
    IsSomeAnd o (Are host t) → IsSomeAnd o (Are after t)
same_host None host after t e a = a
same_host (Some m) host after t e a = record { host = a.host ∙ sym e; shown = a.shown }

-- the count of the block that a section lies in
pub same_count : (t t' : Table) (s : Section) (n : ℕ) → IsSection s → IsInsideAt (blocks_of t) s n →
    (h : IsInsideAt (blocks_of t') s n) → IsUnchanged t t' → (count : ℕ) → IsCountAt t n count → count ≡ h.block.count
same_count t t' s n w i h u count k =
    let same : k.block ≡ i.block = one_block (slice_get (blocks_of t) n) k.block i.block k.is i.is in
    k.count'
    ∙ ap (λ (b : Block). b.count) same
    ∙ sym (count_here t s n i.block w i.is i.inside)
    ∙ ap (λ f. elim (f (first_cell s)) [ None ↦ 0 | Some x ↦ x.count ]) (sym u.blocks)
    ∙ count_here t' s n h.block w h.is h.inside
