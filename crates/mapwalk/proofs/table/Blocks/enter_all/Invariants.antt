use Rattle.std.proofs.Common.{◌≡◌, ◌+◌, ◌++◌, Bool, drop, map}
use Rattle.base.specs.declared.item.MapItem.{MapItem}
use Rattle.mapwalk.specs.Acts.{entries_after, entry_row}
use Rattle.mapwalk.specs.Seen.{entry_mets, seen_all}
use Rattle.mapwalk.specs.Table.{blocks_of}
use Rattle.mapwalk.proofs.table.Blocks.enter_all.Given as goal

abbrev pub invariant-maps : goal.invariant-maps
invariant-maps l = record {
  row : (f : MapItem → Bool) → l.rests ≡ map f l.maps →
      l.row.items ++ entry_row f (drop l.i l.maps) (blocks_of l.self) ≡ entry_row f l.maps (blocks_of l.fn.self);
  blocks : entries_after (drop l.i l.maps) (blocks_of l.self) ≡ entries_after l.maps (blocks_of l.fn.self);
  seen : seen_all (entry_mets (drop l.i l.maps) (blocks_of l.self)) l.seen
      ≡ seen_all (entry_mets l.maps (blocks_of l.fn.self)) l.fn.seen;
  entries : l.self.entries ≡ l.fn.self.entries + l.i;
}
