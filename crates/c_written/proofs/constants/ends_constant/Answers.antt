use Rattle.std.proofs.Common.{◌∙◌, sym}
use Rattle.c_written.specs.Stack.{held}
use Rattle.c_written.proofs.Noting.{ends_some, ends_none}
use Rattle.c_written.proofs.constants.ends_constant.Goals as goal

pub returns-in-Some : goal.returns-in-Some
returns-in-Some c = c.ends_by.ensures ∙ sym (ends_some (held c.args.past.now) c.in-Some.last (sym c.in-Some.ensures))

pub returns-in-None : goal.returns-in-None
returns-in-None c = sym (ends_none (held c.args.past.now) (sym c.in-None.ensures))
