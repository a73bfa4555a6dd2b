use Rattle.std.proofs.Common.{◌≡◌, map, take}
use Rattle.host_memory.proofs.HostRows.{rows_of, zero_row}
use Rattle.host_memory.proofs.memory.Memory.new.Given as goal

abbrev pub invariant-loop-length : goal.invariant-loop-length
invariant-loop-length l = rows_of l.arrays.items ≡ map zero_row (take l.length-index l.lengths)
