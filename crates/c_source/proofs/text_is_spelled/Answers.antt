use Rattle.c_source.proofs.Sources.{text_spelled}
use Rattle.c_source.proofs.text_is_spelled.Goals as goal

pub returns : goal.returns
returns c = text_spelled
