use Rattle.outline.specs.Walk.{entries_in}
use Rattle.outline.proofs.Stands.{stand_get}
use Rattle.outline.proofs.Shows.{host_shown}
use Rattle.outline.proofs.items.host_item.Goals as goal

pub returns : goal.returns
returns c =
    host_shown (entries_in c.args.known.now) c.args.number _ _ _ _ _ _
    (stand_get (entries_in c.args.known.now) c.args.number _ c.requires)
    c.default.ensures c.new.ensures.items c.new-2.ensures.items c.in_ok-loop_values.ensures
