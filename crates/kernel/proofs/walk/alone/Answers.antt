use Rattle.std.proofs.Common.{sym, subst}
use Rattle.std.proofs.lemmas.Result.{on_ok_weaker}
use Rattle.base.specs.declared.tree.Stmt.{Stmt}
use Rattle.kernel.specs.Walks.{HasDone, stmt_meaning}
use Rattle.kernel.proofs.WalkedLoops.{alone_done}
use Rattle.kernel.proofs.walk.alone.Goals as goal

pub returns-in-Store : goal.returns-in-Store
returns-in-Store c =
    on_ok_weaker c.store_at.result
    (subst (λ (s : Stmt). HasDone (stmt_meaning s) c.args.m.now c.store_at.new.m) (sym c.in-Store.is)) c.store_at.ensures

pub returns-in_default : goal.returns-in_default
returns-in_default c =
    on_ok_weaker c.by_code.result
    (alone_done c.args.s.now c.from_ref.result.now c.args.m.now c.by_code.new.m c.from_ref.ensures.value) c.by_code.ensures
