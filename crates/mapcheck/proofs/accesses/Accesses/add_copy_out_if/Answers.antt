use Rattle.std.proofs.Common.{Bool, sym, subst}
use Rattle.std.specs.Prelude.{OnOk}
use Rattle.base.specs.Actions.{CopiesOut, only_if}
use Rattle.mapcheck.specs.Building.{ExtendsBy}
use Rattle.mapcheck.proofs.accesses.Accesses.add_copy_out_if.Goals as goal

pub returns-then-holds : goal.returns-then-holds
returns-then-holds c =
    subst (λ (b : Bool). OnOk c.add_copy_out.result (ExtendsBy (only_if b (CopiesOut c.args.section)) c.args.self.now c.add_copy_out.new.self))
    (sym c.if-holds.true) c.add_copy_out.ensures.ok
