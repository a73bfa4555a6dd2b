use Rattle.std.proofs.Common.{[], ◌++◌}
use Rattle.base.specs.Actions.{Kernel, region_acts}
use Rattle.mapcheck.specs.declared.items.Part.TheVariants.{Entry, Exit}
use Rattle.mapcheck.specs.Building.{row_actions}
use Rattle.mapcheck.proofs.Building.{extends_both, on_ok}
use Rattle.mapcheck.proofs.accesses.Accesses.add_target.Goals as goal

pub returns : goal.returns
returns c w t =
    let entries = row_actions Entry c.args.maps.now c.args.row.now in
    let region = (region_acts Kernel w []).actions in
    let exits = row_actions Exit c.args.maps.now c.args.row.now in
    on_ok c.add_row-2.result
    (extends_both (entries ++ region) exits c.args.self.now c.add_on_device.new.self c.add_row-2.new.self
    (extends_both entries region c.args.self.now c.add_row.new.self c.add_on_device.new.self c.in_ok-add_row.ensures
    (c.in_ok-add_on_device.ensures w t)))
    c.add_row-2.ensures
