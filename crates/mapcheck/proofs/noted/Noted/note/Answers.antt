use Rattle.base.specs.Items.{plan}
use Rattle.mapcheck.proofs.NotedItems.{one_access}
use Rattle.mapcheck.proofs.noted.Noted.note.Goals as goal

pub accesses-preserved : goal.accesses-preserved
accesses-preserved c =
    one_access (plan c.args.order.now) c.args.self.now c.accesses.self c.note_access.new.self c.args.item
    c.deref-access-items.result.now c.accesses.access-index c.access-item.result c.accesses.clear c.in_ok-next.next
    c.accesses-test.true c.access-item.is c.accesses.invariant c.in_ok-next.ensures
