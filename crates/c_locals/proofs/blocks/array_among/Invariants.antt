use Rattle.std.proofs.Common.{◌≡◌, ◌≤◌, length}
use Rattle.c_grammar.specs.Locals.{array_in}
use Rattle.c_locals.specs.Blocks.{blocks_of}
use Rattle.c_locals.proofs.blocks.array_among.Given as goal

abbrev pub invariant-open : goal.invariant-open
invariant-open l =
    (array_in (blocks_of l.rest) l.fn.name ≡ array_in (blocks_of l.fn.blocks) l.fn.name) × (length l.rest ≤ length l.fn.blocks)

abbrev pub decreases-open : goal.decreases-open
decreases-open l = length l.rest
