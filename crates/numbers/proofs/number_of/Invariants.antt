use Rattle.std.proofs.Common.{◌≡◌, ◌^◌, ◌<◌, drop}
use Rattle.numbers.specs.Numbers.{number_below}
use Rattle.numbers.proofs.Digits.{number_after}
use Rattle.numbers.proofs.number_of.Given as goal

-- the digits that are left spell, behind the value, the number of all
abbrev pub invariant-loop-d : goal.invariant-loop-d
invariant-loop-d l = record {
  small : l.value < 2 ^ 64;
  left : number_after (2 ^ 64) l.value (drop l.d-index l.digits) ≡ number_below (2 ^ 64) l.digits;
}
