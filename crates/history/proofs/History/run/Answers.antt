use Rattle.history.proofs.History.run.Goals as goal

pub returns-in_ok-spoil_if-in-Host-clause-since : goal.returns-in_ok-spoil_if-in-Host-clause-since
returns-in_ok-spoil_if-in-Host-clause-since c = λ past h. c.settle_if.ensures.since past c.args.item (c.in_ok-spoil_if-in-Host.ensures.since past h)

pub returns-in_ok-spoil_if-in-Device-clause-since : goal.returns-in_ok-spoil_if-in-Device-clause-since
returns-in_ok-spoil_if-in-Device-clause-since c = λ past h. c.settle_if-in-Device.ensures.since past c.args.item (c.in_ok-spoil_if-in-Device.ensures.since past h)
