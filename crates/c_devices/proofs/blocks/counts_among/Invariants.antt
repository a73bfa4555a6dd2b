use Rattle.std.proofs.Common.{◌≡◌, ◌≤◌, length}
use Rattle.c_grammar.specs.Devices.{counts_devices}
use Rattle.c_devices.specs.Blocks.{blocks_of}
use Rattle.c_devices.proofs.blocks.counts_among.Given as goal

abbrev pub invariant-open : goal.invariant-open
invariant-open l =
    (counts_devices (blocks_of l.rest) l.fn.name ≡ counts_devices (blocks_of l.fn.blocks) l.fn.name) ×
    (length l.rest ≤ length l.fn.blocks)

abbrev pub decreases-open : goal.decreases-open
decreases-open l = length l.rest
