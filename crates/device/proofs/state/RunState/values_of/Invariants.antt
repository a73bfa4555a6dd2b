use Rattle.std.proofs.Common.{◌≡◌, map}
use Rattle.std.specs.List.{range_with_len}
use Rattle.device.specs.Run.{state_of}
use Rattle.device.proofs.state.RunState.values_of.Given as goal

abbrev pub invariant-loop-index : goal.invariant-loop-index
invariant-loop-index l = l.values.items ≡ map
    (λ k. (state_of l.self).memories.host (record { array = l.array; index = k })) (range_with_len 0 l.index)
