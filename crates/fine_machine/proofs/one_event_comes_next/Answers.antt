use Rattle.fine_machine.proofs.OneNext.{one_event_next}
use Rattle.fine_machine.proofs.one_event_comes_next.Goals as goal

pub returns : goal.returns
returns c = one_event_next
