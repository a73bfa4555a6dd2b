use Rattle.std.proofs.Common.{◌≡◌, drop}
use Rattle.mapwalk.specs.Current.{row_lengths}
use Rattle.mapwalk.specs.Sides.{after_acts, shown_by}
use Rattle.mapwalk.proofs.current.act_all.Given as goal

abbrev pub invariant-maps : goal.invariant-maps
invariant-maps l = record {
  shown : after_acts (drop l.i l.maps) (drop l.i l.row) (shown_by l.host l.device)
      ≡ after_acts l.maps l.row (shown_by l.fn.host l.fn.device);
  host : row_lengths l.host ≡ row_lengths l.fn.host;
  device : row_lengths l.device ≡ row_lengths l.fn.device;
}
