use Rattle.std.proofs.Common.{◌≡◌, ◌-◌, ◌≤◌, length}
use Rattle.host_memory.specs.Arrays.{lengths_of, memory_of}
use Rattle.frames.specs.Views.{with_stored}
use Rattle.frames.proofs.Stores.{stored_below}
use Rattle.frames.proofs.host.store_marked.Given as goal

abbrev pub invariant-places : goal.invariant-places
invariant-places l = record {
  bound : l.i ≤ length l.marks;
  stored : memory_of l.host
      ≡ with_stored (stored_below l.array l.first l.numbers l.marks l.i) (memory_of l.fn.host);
  lengths : lengths_of l.host ≡ lengths_of l.fn.host;
}

abbrev pub decreases-places : goal.decreases-places
decreases-places l = length l.marks - l.i
