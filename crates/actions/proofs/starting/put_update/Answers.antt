use Rattle.actions.proofs.Puts.{updates_inside}
use Rattle.actions.proofs.starting.put_update.Goals as goal

pub returns-in_ok-put_copies-in-Inside : goal.returns-in_ok-put_copies-in-Inside
returns-in_ok-put_copies-in-Inside c =
    updates_inside c.args.table.now c.args.item.now _ _ c.in-Inside.ensures c.in_ok-put_copies-in-Inside.ensures
