use Rattle.std.proofs.Common.{ℕ, ◌+◌, ◌^◌, ◌≤◌, length}
use Rattle.witness.specs.Texts.{runs_from}
use Rattle.witness.proofs.Told.{IsFront}
use Rattle.witness.proofs.text.runs_from.Given as goal

abbrev pub invariant-numbers : goal.invariant-numbers
invariant-numbers g l =
    record {
      front : IsFront (g.W.Write.contents l.fn.out) (g.W.Write.contents l.out) (runs_from l.fn.first 1 l.fn.behind)
          (runs_from l.number l.times l.rest);
      few : l.times + length l.rest ≤ 2 ^ 63;
    }

abbrev pub decreases-numbers : goal.decreases-numbers
decreases-numbers g l = length l.rest
