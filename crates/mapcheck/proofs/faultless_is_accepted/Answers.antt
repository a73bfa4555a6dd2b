use Rattle.mapcheck.proofs.Accepting.{faultless}
use Rattle.mapcheck.proofs.faultless_is_accepted.Goals as goal

pub returns : goal.returns
returns c = faultless
