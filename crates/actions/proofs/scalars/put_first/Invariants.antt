use Rattle.std.proofs.Common.{◌≤◌, length}
use Rattle.actions.proofs.TrimmedScalars.{HasFirst}
use Rattle.actions.proofs.scalars.put_first.Given as goal

abbrev pub invariant-numbers : goal.invariant-numbers
invariant-numbers l = record {
  first : HasFirst l.all l.numbers l.i;
  few : length l.numbers ≤ 256;
}
