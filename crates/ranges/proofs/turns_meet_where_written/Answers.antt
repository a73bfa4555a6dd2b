use Rattle.ranges.proofs.Meetings.{met_where_written}
use Rattle.ranges.proofs.turns_meet_where_written.Goals as goal

pub returns : goal.returns
returns c d body loops cell s t rest h e = met_where_written d body loops cell s t rest h e
