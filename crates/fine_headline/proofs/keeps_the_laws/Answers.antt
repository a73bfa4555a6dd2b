use Rattle.fine_headline.proofs.AllLaws.{laws}
use Rattle.fine_headline.proofs.keeps_the_laws.Goals as goal

pub returns : goal.returns
returns c = laws
