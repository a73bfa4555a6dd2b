use Rattle.std.proofs.Common.{◌<◌, arith, false, length, map}
use Rattle.base.specs.declared.item.MapItem.{MapItem}
use Rattle.base.specs.declared.item.MapKind.TheVariants.{To}
use Rattle.maps.specs.Maps.{after_deed, deed_lines}
use Rattle.maps.specs.Shown.{block_of}
use Rattle.maps.proofs.Turns.{after_next, told_next}
use Rattle.maps.proofs.deeds.tell_deeds.Goals as goal

abbrev other : MapItem
other = record {
  kind = To;
  always = false;
  present = false;
  section = record { array = record { 0 = 0 }; first = 0; length = 0 };
  line = 0;
  column = 0;
}

pub maps-preserved : goal.maps-preserved
maps-preserved g c =
    let tell = deed_lines c.args.program.now c.args.spot c.args.deed in
    let next = after_deed c.args.deed in
    let within : c.maps.map-index < length c.args.maps.now = omega arith in
    record {
      lines = told_next tell next _ _ _ c.args.maps.now c.maps.map-index other (map block_of c.args.blocks.now.items)
          (map block_of c.maps.blocks.items) within c.maps.invariant.lines c.maps.invariant.blocks
          c.in_ok-tell_deed.ensures.lines;
      blocks = after_next tell next c.args.maps.now c.maps.map-index other (map block_of c.args.blocks.now.items)
          (map block_of c.maps.blocks.items) (map block_of c.tell_deed.new.blocks.items) within
          c.maps.invariant.blocks c.in_ok-tell_deed.ensures.blocks;
    }
