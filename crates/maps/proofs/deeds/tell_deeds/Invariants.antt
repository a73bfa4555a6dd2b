use Rattle.std.proofs.Common.{◌≡◌, map, take}
use Rattle.std.specs.Io.KnownBytes.{Appends}
use Rattle.maps.specs.Maps.{after, after_deed, deed_lines, told}
use Rattle.maps.specs.Shown.{block_of}
use Rattle.maps.proofs.deeds.tell_deeds.Given as goal

abbrev pub invariant-maps : goal.invariant-maps
invariant-maps g l = record {
  lines : Appends (g.W.Write.contents l.initial.out) (g.W.Write.contents l.out)
      (told (deed_lines l.program l.spot l.deed) (after_deed l.deed) (take l.map-index l.maps)
      (map block_of l.initial.blocks.items));
  blocks : map block_of l.blocks.items ≡ after (after_deed l.deed) (take l.map-index l.maps)
      (map block_of l.initial.blocks.items);
}
