use Rattle.std.proofs.Common.{Bool, sym, subst}
use Rattle.std.specs.Prelude.{OnOk}
use Rattle.base.specs.Actions.{Removes, only_if}
use Rattle.mapcheck.specs.Building.{ExtendsBy}
use Rattle.mapcheck.proofs.accesses.Accesses.add_removes_if.Goals as goal

pub returns-then-holds : goal.returns-then-holds
returns-then-holds c =
    subst (λ (b : Bool). OnOk c.add_removes.result (ExtendsBy (only_if b (Removes c.args.block)) c.args.self.now c.add_removes.new.self))
    (sym c.if-holds.true) c.add_removes.ensures.ok
