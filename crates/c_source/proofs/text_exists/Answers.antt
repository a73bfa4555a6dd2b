use Rattle.c_source.proofs.Sources.{text_exists}
use Rattle.c_source.proofs.text_exists.Goals as goal

pub returns : goal.returns
returns c = text_exists
