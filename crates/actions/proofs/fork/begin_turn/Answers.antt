use Rattle.std.proofs.Common.{refl}
use Rattle.actions.proofs.Forks.{begins_acting, begins_ended}
use Rattle.actions.proofs.fork.begin_turn.Goals as goal

pub returns-then-not-is_acting : goal.returns-then-not-is_acting
returns-then-not-is_acting c =
    begins_ended _ _ c.in_ok-turn.turn c.advance.new.self _ _ c.in_ok-turn.ensures c.in_ok-advance.ensures.same
    (c.is_acting.ensures.ended c.if-not-is_acting.true) refl

pub returns : goal.returns
returns c =
    begins_acting _ _ c.in_ok-turn.turn c.advance.new.self _ _ c.in_ok-turn.ensures c.in_ok-advance.ensures.same
    (c.is_acting.ensures.acting c.in_ok-advance.ensures.stopped c.if-not-is_acting.false) c.in_ok-push_back.ensures.items
