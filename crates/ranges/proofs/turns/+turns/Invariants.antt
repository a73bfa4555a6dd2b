use Rattle.std.proofs.Common.{◌≡◌, ◌-◌, ◌^◌, min, take}
use Rattle.ranges.specs.Seen.{list_turns}
use Rattle.ranges.proofs.turns.+turns.Given as goal

abbrev pub invariant-turns_in_all-loop-s : goal.invariant-turns_in_all-loop-s
invariant-turns_in_all-loop-s l = l.total ≡ min (list_turns (take l.s-index l.all)) (2 ^ 64 - 1)
