use Rattle.std.proofs.Common.{◌≡◌, ◌++◌, length, true}
use Rattle.c_grammar.specs.Descents.{put_all}
use Rattle.c_terminals.specs.Seen.{seen_all}
use Rattle.c_descents.specs.Blocks.{open_blocks}
use Rattle.c_descents.proofs.sums.put_all.Given as goal

abbrev pub invariant-tokens : goal.invariant-tokens
invariant-tokens l =
    seen_all l.done.items ++ put_all (open_blocks l.blocks) l.free (seen_all l.rest)
    ≡ seen_all l.fn.done.items ++ put_all (open_blocks l.fn.blocks) true (seen_all l.fn.tokens)

abbrev pub decreases-tokens : goal.decreases-tokens
decreases-tokens l = length l.rest
