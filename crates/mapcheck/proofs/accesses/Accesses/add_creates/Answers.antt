use Rattle.std.proofs.Common.{[], ◌∷◌}
use Rattle.std.proofs.lemmas.Result.{on_ok_weaker}
use Rattle.base.specs.Actions.{Creates}
use Rattle.mapcheck.proofs.Sides.{creates, grown}
use Rattle.mapcheck.proofs.accesses.Accesses.add_creates.Goals as goal

pub returns-clause-ok : goal.returns-clause-ok
returns-clause-ok c =
    let old = c.args.self.now in
    on_ok_weaker c.add.result
    (grown (Creates c.args.created) old c.add.new.self (c.write.result ∷ []) c.add.ensures.device
    (creates old.device c.args.created c.write.result (record { place = c.write.ensures.loc; how = c.write.ensures.writes; which = c.write.ensures.cells }))) c.add.ensures.ok
