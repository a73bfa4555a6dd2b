use Rattle.c_written.specs.Clauses.{seen_place, seen_scope}
use Rattle.c_written.specs.Forms.{all_placed}
use Rattle.c_written.proofs.KeptLines.{kept_done}
use Rattle.c_written.proofs.privates.kept_behind.Goals as goal

pub returns : goal.returns
returns c =
    let k = c.tokens.kept in
    kept_done (seen_scope k.scope) (seen_place k.place) k.left (all_placed k.done.items) c.tokens.rest.now _
    c.in_default.len_below c.tokens.invariant.line
