use Rattle.fine_headline.proofs.Headline.{headline}
use Rattle.fine_headline.proofs.every_run_is_right.Goals as goal

pub returns : goal.returns
returns c = headline
