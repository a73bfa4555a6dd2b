use Rattle.c_written.specs.Clauses.{seen_scope}
use Rattle.c_written.proofs.KeptLines.{names_fit}
use Rattle.c_written.proofs.privates.Kept.private_len.Goals as goal

pub returns-then-is_sign-clause-within : goal.returns-then-is_sign-clause-within
returns-then-is_sign-clause-within c =
    names_fit (seen_scope c.args.self.now.scope) c.args.rest.now c.names_len.result c.in-len2-up.len_at_least c.names_len.ensures
