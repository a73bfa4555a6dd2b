use Rattle.std.proofs.Common.{subst}
use Rattle.std.specs.Prelude.{IfSome}
use Rattle.base.specs.Items.{plan}
use Rattle.base.specs.declared.tree.Program.{Program}
use Rattle.outline.specs.Regions.{entries_of}
use Rattle.reasons.specs.Past.{IsItem}
use Rattle.reasons.proofs.Telling.{item_at}
use Rattle.reasons.proofs.past.Past.item.Goals as goal

pub returns : goal.returns
returns c =
    let p = c.self.inside.outlined.now in
    subst (λ (q : Program). IfSome c.get.result (λ x. IsItem (plan q) c.args.number x.now)) c.self.view_is
    (item_at (plan p) (entries_of p) c.items.result.now c.args.number c.get.result c.items.ensures.shown c.get.ensures.lookup)
