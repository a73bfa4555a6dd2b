use Rattle.std.proofs.Common.{Some, None, sym, subst}
use Rattle.base.specs.Least.{IsLeast}
use Rattle.mapwalk.proofs.RegionCauses.{host_first, host_none, stale}
use Rattle.mapwalk.proofs.region.host_cause.Goals as goal

pub returns-in-None : goal.returns-in-None
returns-in-None c w k e here t =
    host_none w c.args.f.now k e t (subst (λ side. IsLeast (stale c.args.f.now side) None) (sym here) c.in-None.ensures)

pub returns-in-Some : goal.returns-in-Some
returns-in-Some c w k e here t =
    host_first w c.args.f.now k c.in-Some.cell e t
    (subst (λ side. IsLeast (stale c.args.f.now side) (Some c.in-Some.cell)) (sym here) c.in-Some.ensures)
