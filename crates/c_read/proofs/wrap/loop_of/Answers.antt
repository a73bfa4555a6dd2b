use Rattle.std.proofs.Common.{arith}
use Rattle.c_read.proofs.Emptiness.{empty_items}
use Rattle.c_read.proofs.Wraps.{loop_statement}
use Rattle.c_read.proofs.wrap.loop_of.Goals as goal

pub returns-then-is_empty-clause-means : goal.returns-then-is_empty-clause-means
returns-then-is_empty-clause-means c env is h b k m =
    let parts = c.args.gathered.parts in
    loop_statement c.args.gathered c.args.bounds env is h b
    (empty_items parts.items parts.len c.is_empty.result c.is_empty.ensures (omega (arith, parts.ok.0)) c.if-is_empty.true)
    k m
