use Rattle.std.proofs.Common.{◌≡◌, ℕ, ◌+◌, ◌^◌, ◌≤◌, length}
use Rattle.witness.specs.Texts.{difference_from}
use Rattle.witness.proofs.text.first_difference.Given as goal

-- the lines that differ are those of what is left
abbrev pub invariant-bytes : goal.invariant-bytes
invariant-bytes g l =
    record {
      same : difference_from l.line l.here l.there l.left l.right
          ≡ difference_from 1 l.own l.other l.own l.other;
      few : l.line + length l.left ≤ 2 ^ 63 + 1;
    }

abbrev pub decreases-bytes : goal.decreases-bytes
decreases-bytes g l = length l.left
