use Rattle.same_text.proofs.Laws.{source_is_text}
use Rattle.same_text.proofs.source_is_text.Goals as goal

pub returns : goal.returns
returns c = source_is_text
