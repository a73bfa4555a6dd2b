use Rattle.c_grammar.proofs.Sources.{text_exists}
use Rattle.c_grammar.proofs.text_exists.Goals as goal

pub returns : goal.returns
returns c = text_exists
