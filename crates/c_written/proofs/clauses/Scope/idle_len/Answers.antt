use Rattle.c_written.specs.Clauses.{seen_scope}
use Rattle.c_written.proofs.ClauseLengths.{idle_some}
use Rattle.c_written.proofs.clauses.Scope.idle_len.Goals as goal

pub returns : goal.returns
returns c =
    idle_some (seen_scope c.args.self.now) c.args.rest.now c.in_ok-count.count c.with_comma.result c.in_ok-count.ensures.len
    c.with_comma.ensures
