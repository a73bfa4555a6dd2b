use Rattle.std.proofs.Common.{◌≡◌, ◌++◌, length}
use Rattle.c_grammar.specs.Devices.{Other}
use Rattle.c_devices.specs.Blocks.{open_blocks}
use Rattle.c_devices.specs.Lines.{all_placed, put_placed, seen_before}
use Rattle.c_devices.proofs.lines.put_all.Given as goal

abbrev pub invariant-tokens : goal.invariant-tokens
invariant-tokens l =
    all_placed l.done.items ++ put_placed (open_blocks l.blocks) (seen_before l.before) (all_placed l.rest)
    ≡ all_placed l.fn.done.items ++ put_placed (open_blocks l.fn.blocks) Other (all_placed l.fn.tokens)

abbrev pub decreases-tokens : goal.decreases-tokens
decreases-tokens l = length l.rest
