use Rattle.c_terminals.specs.Seen.{seen, seen_all}
use Rattle.c_triangles.specs.Blocks.{open_blocks}
use Rattle.c_triangles.specs.Bounds.{seen_bound}
use Rattle.c_triangles.proofs.Summing.{bound_goes, first_two}
use Rattle.c_triangles.proofs.bounds.bound_in.Goals as goal

pub tokens-preserved : goal.tokens-preserved
tokens-preserved c =
    bound_goes (open_blocks c.args.blocks.now) (seen_bound c.tokens.bound) (seen_bound c.in_ok-next.next)
    (seen c.sign-item.result) (seen c.token-item.result) _ (seen_all c.tokens.rest.now) _
    (first_two c.tokens.rest.now c.sign-item.result c.token-item.result c.in-len2-up.len_at_least c.sign-item.is
    c.token-item.is) c.in_ok-next.ensures c.tokens.invariant
