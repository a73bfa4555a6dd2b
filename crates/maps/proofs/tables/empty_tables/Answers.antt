use Rattle.std.proofs.Common.{◌∙◌, ap, arith, length, length-append}
use Rattle.maps.specs.Shown.{tables_in}
use Rattle.maps.proofs.Devices.{empty_more}
use Rattle.maps.proofs.tables.empty_tables.Goals as goal

pub devices-preserved : goal.devices-preserved
devices-preserved c = record {
  count = ap length c.in_ok-push.ensures.items ∙ grind (arith, length-append);
  empty = ap tables_in c.in_ok-push.ensures.items ∙ empty_more c.devices.tables.items c.new.result c.devices.invariant.empty c.new.ensures.items;
}
