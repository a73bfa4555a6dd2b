use Rattle.std.proofs.Common.{◌≡◌, ◌++◌, drop}
use Rattle.mapwalk.specs.Acts.{update_row}
use Rattle.mapwalk.specs.Seen.{seen_all, update_mets}
use Rattle.mapwalk.specs.Table.{blocks_of}
use Rattle.mapwalk.proofs.table.Blocks.update_all.Given as goal

abbrev pub invariant-maps : goal.invariant-maps
invariant-maps l = record {
  row : l.row.items ++ update_row (drop l.item-index l.maps) (blocks_of l.self) ≡ update_row l.maps (blocks_of l.self);
  seen : seen_all (update_mets (drop l.item-index l.maps) (blocks_of l.self)) l.seen
      ≡ seen_all (update_mets l.maps (blocks_of l.self)) l.fn.seen;
}
