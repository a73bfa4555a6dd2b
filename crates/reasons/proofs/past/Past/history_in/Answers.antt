use Rattle.std.proofs.Common.{Option, subst}
use Rattle.std.specs.Prelude.{IfSome}
use Rattle.base.specs.Items.{plan}
use Rattle.history.specs.declared.History.{History}
use Rattle.history.specs.Places.{before}
use Rattle.history.specs.Since.{IsHistory}
use Rattle.reasons.proofs.past.Past.history_in.Goals as goal

pub returns : goal.returns
returns c =
    let p = plan c.args.self.now in
    let known : IsHistory p c.args.cell c.args.number c.in-Some.history =
    subst (λ (o : Option History). IfSome o (IsHistory p c.args.cell c.args.number)) c.in-Some.is c.in_ok-history.ensures in
    c.in_ok-enter_all.ensures (before p c.args.cell) known.since
