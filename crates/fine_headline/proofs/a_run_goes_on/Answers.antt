use Rattle.fine_headline.proofs.NeverStuck.{a_run_goes_on}
use Rattle.fine_headline.proofs.a_run_goes_on.Goals as goal

pub returns : goal.returns
returns c = a_run_goes_on
