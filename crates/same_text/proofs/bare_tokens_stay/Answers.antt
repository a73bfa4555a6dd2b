use Rattle.same_text.proofs.Laws.{bare_tokens_stay}
use Rattle.same_text.proofs.bare_tokens_stay.Goals as goal

pub returns : goal.returns
returns c = bare_tokens_stay
