use Rattle.std.proofs.Common.{◌≡◌, ◌++◌, length, false}
use Rattle.c_grammar.specs.Descents.{put_on_line}
use Rattle.c_descents.specs.Blocks.{open_blocks}
use Rattle.c_descents.specs.Lines.{all_placed}
use Rattle.c_descents.proofs.lines.put_on_line.Given as goal

abbrev pub invariant-tokens : goal.invariant-tokens
invariant-tokens l =
    all_placed l.done.items ++ put_on_line (open_blocks l.blocks) l.depth l.free (all_placed l.rest)
    ≡ put_on_line (open_blocks l.fn.blocks) 0 false (all_placed l.fn.tokens)

abbrev pub decreases-tokens : goal.decreases-tokens
decreases-tokens l = length l.rest
