use Rattle.c_meaning.proofs.Statements.{same_erased}
use Rattle.c_meaning.proofs.same_erased.Goals as goal

pub returns : goal.returns
returns c = same_erased
