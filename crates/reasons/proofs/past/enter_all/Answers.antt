use Rattle.reasons.proofs.past.enter_all.Goals as goal

pub maps-preserved : goal.maps-preserved
maps-preserved c = λ past h. c.in_ok-enter.ensures.since past (c.maps.invariant past h)
