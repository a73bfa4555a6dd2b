use Rattle.std.proofs.Common.{subst}
use Rattle.order.specs.Touches.{AreInTurn}
use Rattle.order.proofs.Turns.{sorted_has}
use Rattle.order.proofs.touches.ordered.Goals as goal

pub returns : goal.returns
returns c = sorted_has c.args.items.now c.args.written c.in_ok-touches.touches.items c.sort_unstable_by_key.new.self.items
    c.in_ok-touches.ensures c.sort_unstable_by_key.ensures.permutation
    (subst AreInTurn c.deref.ensures.value (c.are_in_turn.ensures c.if-not-are_in_turn.false))
