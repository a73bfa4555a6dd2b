use Rattle.std.proofs.Common.{◌≡◌, false, length}
use Rattle.c_grammar.specs.Locals.{is_indexed}
use Rattle.c_terminals.specs.Seen.{seen_all}
use Rattle.c_locals.specs.Blocks.{open_blocks}
use Rattle.c_locals.proofs.loops.is_indexed.Given as goal

abbrev pub invariant-tokens : goal.invariant-tokens
invariant-tokens l =
    is_indexed (open_blocks l.blocks) l.name l.named l.depth (seen_all l.rest)
    ≡ is_indexed (open_blocks l.fn.blocks) l.fn.name false 0 (seen_all l.fn.tokens)

abbrev pub decreases-tokens : goal.decreases-tokens
decreases-tokens l = length l.rest
