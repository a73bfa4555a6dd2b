use Rattle.std.proofs.Common.{sym}
use Rattle.c_macros.proofs.Steps.{comment_short}
use Rattle.c_macros.proofs.definitions.is_comment.Goals as goal

pub returns-in_default : goal.returns-in_default
returns-in_default c = sym (comment_short c.args.lexemes.now c.in_default.len_below)
