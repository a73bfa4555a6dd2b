use Rattle.same_text.proofs.Laws.{mend_erases}
use Rattle.same_text.proofs.mend_erases.Goals as goal

pub returns : goal.returns
returns c = mend_erases
