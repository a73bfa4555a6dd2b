use Rattle.std.proofs.Common.{◌≡◌, map, take}
use Rattle.device.specs.Answering.{final_of}
use Rattle.stepper.specs.Answering.{row_in}
use Rattle.stepper.proofs.marked.finals_of.Given as goal

abbrev pub invariant-arrays : goal.invariant-arrays
invariant-arrays l = map final_of l.finals.items ≡ map (row_in l.host) (take l.array-index l.arrays)
