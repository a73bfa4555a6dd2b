use Rattle.std.proofs.Common.{refl}
use Rattle.actions.proofs.PutBacks.{goes_back, stays_out}
use Rattle.actions.proofs.control.put_back.Goals as goal

pub returns-then-not-is_acting : goal.returns-then-not-is_acting
returns-then-not-is_acting c =
    stays_out c.args.place c.args.turn c.proceed.new.self _ _ _ c.in_ok-proceed.ensures.answered
    (c.is_acting.ensures.ended c.if-not-is_acting.true) refl

pub returns : goal.returns
returns c =
    goes_back c.args.place c.args.turn c.proceed.new.self _ _ _ c.in_ok-proceed.ensures.answered
    (c.is_acting.ensures.acting c.in_ok-proceed.ensures.stopped c.if-not-is_acting.false) c.in_ok-insert.ensures.items
