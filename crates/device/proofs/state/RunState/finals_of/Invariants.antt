use Rattle.std.proofs.Common.{◌≡◌, map, take}
use Rattle.device.specs.Answering.{final_in, final_of}
use Rattle.device.proofs.state.RunState.finals_of.Given as goal

abbrev pub invariant-loop-array : goal.invariant-loop-array
invariant-loop-array l = map final_of l.finals.items ≡ map (final_in l.self) (take l.array-index l.arrays)
