use Rattle.std.proofs.Common.{arith, Some, None, sym, subst}
use Rattle.base.specs.Least.{IsLeast}
use Rattle.mapwalk.proofs.RegionCauses.{kernel_meets, kernel_none, kernel_stale, kernel_unmapped, stale}
use Rattle.std.proofs.lemmas.Grind.{common_steps}
use Rattle.mapwalk.proofs.region.kernel_cause.Goals as goal

pub returns-in-Some : goal.returns-in-Some
returns-in-Some c w k e here m t =
    kernel_unmapped w c.args.f.now k c.args.maps.now c.in-Some.cell e m t c.in-Some.ensures

pub returns-in-None : goal.returns-in-None
returns-in-None c w k e here m t =
    kernel_none w c.args.f.now k c.args.maps.now e m t c.in_default.ensures
    (subst (λ side. IsLeast (stale c.args.f.now side) None) (sym here) c.in_default-least_stale.ensures) c.in-None.is

pub returns-in-Some-least_stale : goal.returns-in-Some-least_stale
returns-in-Some-least_stale c w k e here m t =
    kernel_stale w c.args.f.now k c.args.maps.now c.in-Some-least_stale.cell e m t c.in_default.ensures
    (subst (λ side. IsLeast (stale c.args.f.now side) (Some c.in-Some-least_stale.cell)) (sym here)
    c.in-Some-least_stale.ensures)

pub returns-in-Some-meeting : goal.returns-in-Some-meeting
returns-in-Some-meeting c w k e here m t =
    kernel_meets w c.args.f.now k c.args.maps.now c.in-Some-meeting.cell e m t c.in_default.ensures
    (subst (λ side. IsLeast (stale c.args.f.now side) None) (sym here) c.in_default-least_stale.ensures)
    c.in-Some-meeting.is

pub least_unmapped-requires-clause-inside : goal.least_unmapped-requires-clause-inside
least_unmapped-requires-clause-inside c = grind (arith, common_steps)
