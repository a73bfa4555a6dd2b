use Rattle.c_written.specs.Clauses.{seen_scope}
use Rattle.c_written.proofs.KeptLines.{owned_some}
use Rattle.c_written.proofs.privates.Kept.owned_len.Goals as goal

pub returns : goal.returns
returns c =
    owned_some (seen_scope c.args.self.now.scope) c.args.rest.now c.in_ok-count.count c.with_comma.result
    c.in_ok-count.ensures.len c.with_comma.ensures
