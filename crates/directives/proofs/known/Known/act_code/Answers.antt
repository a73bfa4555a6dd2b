use Rattle.std.proofs.Common.{rules}
use Rattle.directives.proofs.known.Known.act_code.Goals as goal

pub returns-else-breaks : goal.returns-else-breaks
returns-else-breaks c = search rules
