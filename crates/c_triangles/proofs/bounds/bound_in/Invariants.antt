use Rattle.std.proofs.Common.{◌≡◌, length}
use Rattle.c_grammar.specs.Triangles.{bound_from, bound_in}
use Rattle.c_terminals.specs.Seen.{seen_all}
use Rattle.c_triangles.specs.Blocks.{open_blocks}
use Rattle.c_triangles.specs.Bounds.{seen_bound}
use Rattle.c_triangles.proofs.bounds.bound_in.Given as goal

abbrev pub invariant-tokens : goal.invariant-tokens
invariant-tokens l =
    bound_from (open_blocks l.fn.blocks) (seen_bound l.bound) (seen_all l.rest) ≡
    bound_in (open_blocks l.fn.blocks) (seen_all l.fn.tokens)

abbrev pub decreases-tokens : goal.decreases-tokens
decreases-tokens l = length l.rest
