use Rattle.c_meaning.proofs.Expressions.{same_value}
use Rattle.c_meaning.proofs.same_value.Goals as goal

pub returns : goal.returns
returns c = same_value
