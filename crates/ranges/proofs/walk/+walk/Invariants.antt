use Rattle.std.proofs.Common.{◌≡◌, ◌-◌, drop}
use Rattle.ranges.specs.Seen.{after, seen_in, list_touches, turns_from}
use Rattle.ranges.proofs.walk.+walk.Given as goal

abbrev pub invariant-walk_all-loop-s : goal.invariant-walk_all-loop-s
invariant-walk_all-loop-s l = record {
  loops : l.loops.items ≡ l.initial.loops.items;
  rest : after l.lengths (list_touches (drop l.s-index l.all) l.initial.loops.items l.certain) (seen_in l.walk)
      ≡ after l.lengths (list_touches l.all l.initial.loops.items l.certain) (seen_in l.initial.walk);
}

abbrev pub invariant-walk_turns-loop-v : goal.invariant-walk_turns-loop-v
invariant-walk_turns-loop-v l = record {
  loops : l.loops.items ≡ l.initial.loops.items;
  rest : after l.lengths (turns_from l.v l.bounds l.body l.initial.loops.items l.certain) (seen_in l.walk)
      ≡ after l.lengths (turns_from l.bounds.first l.bounds l.body l.initial.loops.items l.certain)
      (seen_in l.initial.walk);
}

abbrev pub decreases-walk_turns-loop-v : goal.decreases-walk_turns-loop-v
decreases-walk_turns-loop-v l = l.bounds.end - l.v
