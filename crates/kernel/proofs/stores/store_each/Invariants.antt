use Rattle.std.proofs.Common.{false}
use Rattle.std.specs.Prelude.{slice_index, slice_index_or}
use Rattle.kernel.proofs.SomeStores.{SomeStored}
use Rattle.kernel.proofs.stores.store_each.Given as goal

abbrev pub invariant-lanes : goal.invariant-lanes
invariant-lanes l =
    SomeStored (λ k. slice_index_or l.mask k false) l.first l.array.0 (slice_index l.numbers) l.fn.rows l.rows l.j
