use Rattle.ranges.proofs.Meetings.{met_before}
use Rattle.ranges.proofs.turns_meet_before.Goals as goal

pub returns : goal.returns
returns c d body loops cell h = met_before d body loops cell h
