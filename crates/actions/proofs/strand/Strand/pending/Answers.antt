use Rattle.std.proofs.Common.{sym, ◌∙◌}
use Rattle.actions.proofs.Nexts.{pending_of}
use Rattle.actions.proofs.strand.Strand.pending.Goals as goal

pub returns-clause-some : goal.returns-clause-some
returns-clause-some c =
    pending_of c.args.self.now c.in_ok-frame.frame c.pop.new.self c.pop.result (sym c.top.ensures ∙ c.in_ok-frame.was)
    c.pop.ensures (sym c.is_action.ensures ∙ c.if-is_action.false)
