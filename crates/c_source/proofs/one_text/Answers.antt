use Rattle.c_source.proofs.Sources.{one_text}
use Rattle.c_source.proofs.one_text.Goals as goal

pub returns : goal.returns
returns c = one_text
