use Rattle.std.proofs.Common.{◌≡◌, take}
use Rattle.base.specs.Meaning.{output_of}
use Rattle.device.proofs.output.text_of.Given as goal

abbrev pub invariant-loop-n : goal.invariant-loop-n
invariant-loop-n l = l.out.items ≡ output_of (take l.n-index l.printed)
