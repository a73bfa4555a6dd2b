use Rattle.directives.specs.Ahead.{seen_line}
use Rattle.c_constructs.proofs.FewLoops.{few_loops}
use Rattle.c_constructs.proofs.Taken.{bad_line}
use Rattle.std.proofs.Common.{arith}
use Rattle.c_constructs.proofs.line.directive_at.Goals as goal

pub returns-in-Err-clause-read : goal.returns-in-Err-clause-read
returns-in-Err-clause-read c = grind (arith, bad_line)

pub returns-in-Ok-clause-depth : goal.returns-in-Ok-clause-depth
returns-in-Ok-clause-depth c =
    few_loops (seen_line c.args.line.now) c.in-Ok.directive c.in-Ok.ensures.sound c.in-Ok.ensures.source
