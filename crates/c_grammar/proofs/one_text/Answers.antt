use Rattle.c_grammar.proofs.SourceOne.{one_text}
use Rattle.c_grammar.proofs.one_text.Goals as goal

pub returns : goal.returns
returns c = one_text
