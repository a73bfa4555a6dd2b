use Rattle.std.proofs.Common.{refl, [], ◌∷◌}
use Rattle.std.proofs.lemmas.Result.{on_ok_weaker}
use Rattle.base.specs.Actions.{HostRegion}
use Rattle.mapcheck.proofs.Sides.{runs_on_host, grown}
use Rattle.mapcheck.proofs.accesses.Accesses.add_host_region.Goals as goal

pub returns-clause-ok : goal.returns-clause-ok
returns-clause-ok c =
    let old = c.args.self.now in
    on_ok_weaker c.add.result
    (λ e touches t. grown (HostRegion touches) old c.add.new.self (c.read.result ∷ c.write.result ∷ []) c.add.ensures.device
    (runs_on_host old.device c.args.footprint.now touches _ _ c.read.result c.write.result t (λ k. refl) (λ k. refl)
    (record { place = c.read.ensures.loc; how = c.read.ensures.writes; which = c.read.ensures.cells })
    (record { place = c.write.ensures.loc; how = c.write.ensures.writes; which = c.write.ensures.cells })) e) c.add.ensures.ok
