use Rattle.directives.proofs.Sharing.{at_chunk, at_whole, stop_chunk, read_chunk, read_whole_at}
use Rattle.std.proofs.Common.{arith}
use Rattle.directives.proofs.line.Line.chunk.Goals as goal

pub returns-in_err-enter-clause-read : goal.returns-in_err-enter-clause-read
returns-in_err-enter-clause-read c = grind (arith, at_chunk)

pub returns-in_err-number-clause-read : goal.returns-in_err-number-clause-read
returns-in_err-number-clause-read c = grind (arith, at_chunk)

pub returns-in_err-expect-clause-read : goal.returns-in_err-expect-clause-read
returns-in_err-expect-clause-read c = grind (arith, at_chunk)

pub returns-then-at-clause-read : goal.returns-then-at-clause-read
returns-then-at-clause-read c = grind (arith, at_chunk)

pub returns-then-at-clause-tree : goal.returns-then-at-clause-tree
returns-then-at-clause-tree c = grind (arith, read_chunk)

pub returns-in_err-enter-2-clause-read : goal.returns-in_err-enter-2-clause-read
returns-in_err-enter-2-clause-read c = grind (arith, at_whole)

pub returns-then-at-2-clause-read : goal.returns-then-at-2-clause-read
returns-then-at-2-clause-read c = grind (arith, at_whole)

pub returns-then-at-2-clause-tree : goal.returns-then-at-2-clause-tree
returns-then-at-2-clause-tree c = grind (arith, read_whole_at)

pub returns-clause-read : goal.returns-clause-read
returns-clause-read c = grind (arith, stop_chunk)
