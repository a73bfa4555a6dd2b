use Rattle.std.proofs.Common.{Option, subst}
use Rattle.std.specs.Prelude.{IfSome}
use Rattle.base.specs.Items.{plan}
use Rattle.history.specs.declared.History.{History}
use Rattle.history.specs.Places.{before}
use Rattle.history.specs.Since.{AreSince}
use Rattle.reasons.proofs.Telling.{tells}
use Rattle.reasons.proofs.scene.Scene.stale.Goals as goal

pub returns : goal.returns
returns c =
    let p = plan c.args.past.now in
    let r = c.args.refusal.now in
    let known : AreSince (before p r.cell) r.item c.in-Some-2.history =
    subst (λ (o : Option History). IfSome o (AreSince (before p r.cell) r.item)) c.in-Some-2.is c.in_ok-history.ensures in
    tells p r c.in_ok-stale_since.field-0 c.in-Some.item.now
    (record { side = c.side_of-side.result; event = c.in-Some-event.event }) c.in-Some.ensures c.side_of-side.ensures.runs
    c.in_ok-stale_since.ensures.item c.in_ok-stale_since.ensures.since
    (c.in-Some-event.ensures.last c.side_of-side.ensures.side (before p r.cell) r.item known)
