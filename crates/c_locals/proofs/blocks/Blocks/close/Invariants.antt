use Rattle.std.proofs.Common.{◌≡◌, length}
use Rattle.c_grammar.specs.Locals.{closed}
use Rattle.c_locals.specs.Blocks.{open_blocks}
use Rattle.c_locals.proofs.blocks.Blocks.close.Given as goal

abbrev pub invariant-open : goal.invariant-open
invariant-open l = closed (open_blocks l.self) ≡ closed (open_blocks l.fn.self)

abbrev pub decreases-open : goal.decreases-open
decreases-open l = length (open_blocks l.self)
