use Rattle.std.proofs.Common.{refl}
use Rattle.c_meaning.proofs.examples_as_said.Goals as goal

pub returns : goal.returns
returns c = λ p. record { differences = refl; unseen = refl; equalities = refl }
