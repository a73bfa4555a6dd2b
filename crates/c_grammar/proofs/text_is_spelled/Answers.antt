use Rattle.c_grammar.proofs.Sources.{text_spelled}
use Rattle.c_grammar.proofs.text_is_spelled.Goals as goal

pub returns : goal.returns
returns c = text_spelled
