use Rattle.std.proofs.Common.{◌∙◌, sym}
use Rattle.c_written.proofs.Reducing.{finish_none, finish_some}
use Rattle.c_written.proofs.expressions.Reader.finish.Goals as goal

pub returns-in-None : goal.returns-in-None
returns-in-None c = sym (finish_none c.args.self.now c.in-None.is)

pub returns-in-Some : goal.returns-in-Some
returns-in-Some c = c.ended.ensures.value ∙ sym (finish_some c.args.self.now c.in-Some.value c.in-Some.is)
