use Rattle.host.proofs.run.run_through.Goals as goal

pub returns-clause-answer : goal.returns-clause-answer
returns-clause-answer g c = c.run_from.ensures.answer

pub returns-clause-within : goal.returns-clause-within
returns-clause-within g c = c.run_from.ensures.within

pub returns-clause-fault : goal.returns-clause-fault
returns-clause-fault g c = c.run_from.ensures.fault
