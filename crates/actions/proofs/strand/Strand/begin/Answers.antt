use Rattle.std.proofs.Common.{refl}
use Rattle.actions.proofs.Sources.{begins_at}
use Rattle.actions.proofs.strand.Strand.begin.Goals as goal

pub returns : goal.returns
returns c =
    begins_at c.args.e.now c.args.frame c.args.self.now c.begin_expr.new.frames c.in_ok-self.field-0 _ _ _ c.deref.ensures.value
    refl c.in_ok-push.ensures.pushed c.in_ok-self.ensures
