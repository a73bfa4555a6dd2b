use Rattle.c_source.proofs.Sources.{text_not_spelled}
use Rattle.c_source.proofs.faulty_text_is_not_spelled.Goals as goal

pub returns : goal.returns
returns c = text_not_spelled
