use Rattle.std.proofs.Common.{[], ◌∷◌}
use Rattle.std.proofs.lemmas.Result.{on_ok_weaker}
use Rattle.base.specs.Actions.{CopiesIn}
use Rattle.mapcheck.proofs.Sides.{copies_in, grown}
use Rattle.mapcheck.proofs.accesses.Accesses.add_copy_in.Goals as goal

pub returns-clause-ok : goal.returns-clause-ok
returns-clause-ok c =
    let old = c.args.self.now in
    on_ok_weaker c.add.result
    (grown (CopiesIn c.args.section) old c.add.new.self (c.read.result ∷ c.write.result ∷ []) c.add.ensures.device
    (copies_in old.device c.args.section c.read.result c.write.result (record { place = c.read.ensures.loc; how = c.read.ensures.writes; which = c.read.ensures.cells })
    (record { place = c.write.ensures.loc; how = c.write.ensures.writes; which = c.write.ensures.cells }))) c.add.ensures.ok
