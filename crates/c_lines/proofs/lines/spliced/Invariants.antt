use Rattle.std.proofs.Common.{◌≡◌, ◌++◌, length}
use Rattle.c_lines.specs.Spliced.{spliced, spliced_from}
use Rattle.c_lines.proofs.lines.spliced.Given as goal

abbrev pub invariant-bytes : goal.invariant-bytes
invariant-bytes l = l.done.items ++ spliced_from l.at l.feeds l.rest ≡ spliced l.fn.bytes

abbrev pub decreases-bytes : goal.decreases-bytes
decreases-bytes l = length l.rest
