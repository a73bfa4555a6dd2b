use Rattle.device.proofs.Reaching.{begun}
use Rattle.device.proofs.state.RunState.new.Goals as goal

pub invariant_of-result : goal.invariant_of-result
invariant_of-result c =
    begun _ c.in_ok-standing.standing c.is_accepted.ensures c.are_numbers.ensures c.in_ok-standing.ensures.number c.new-2.ensures.items
    c.in_ok-standing.ensures.start c.in_ok-standing.ensures.capacity
