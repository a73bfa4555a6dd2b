use Rattle.std.proofs.Common.{Option, subst}
use Rattle.ranges.specs.declared.cells.Footprint.{Footprint}
use Rattle.mapwalk.specs.Regions.{AreTouches, IsFootprintOf}
use Rattle.mapcheck.proofs.Building.{kernel_region, on_ok}
use Rattle.mapcheck.proofs.accesses.Accesses.add_on_device.Goals as goal

pub returns-in-Some : goal.returns-in-Some
returns-in-Some c w t =
    let touches : AreTouches w c.in-Some.footprint = subst (λ (o : Option Footprint). IsFootprintOf w o) c.in-Some.is t in
    on_ok c.add_kernel.result (kernel_region w c.in-Some.footprint c.args.self.now c.add_kernel.new.self touches) c.add_kernel.ensures.ok
