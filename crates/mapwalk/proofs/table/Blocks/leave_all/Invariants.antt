use Rattle.std.proofs.Common.{◌≡◌, ◌++◌, Bool, drop, map}
use Rattle.base.specs.declared.item.MapItem.{MapItem}
use Rattle.mapwalk.specs.Acts.{exits_after, exit_row}
use Rattle.mapwalk.specs.Seen.{exit_mets, seen_all}
use Rattle.mapwalk.specs.Table.{blocks_of}
use Rattle.mapwalk.proofs.table.Blocks.leave_all.Given as goal

abbrev pub invariant-maps : goal.invariant-maps
invariant-maps l = record {
  row : (f : MapItem → Bool) → l.rests ≡ map f l.maps →
      l.row.items ++ exit_row f (drop l.i l.maps) (blocks_of l.self) ≡ exit_row f l.maps (blocks_of l.fn.self);
  blocks : exits_after (drop l.i l.maps) (blocks_of l.self) ≡ exits_after l.maps (blocks_of l.fn.self);
  seen : seen_all (exit_mets (drop l.i l.maps) (blocks_of l.self)) l.seen
      ≡ seen_all (exit_mets l.maps (blocks_of l.fn.self)) l.fn.seen;
  entries : l.self.entries ≡ l.fn.self.entries;
}
