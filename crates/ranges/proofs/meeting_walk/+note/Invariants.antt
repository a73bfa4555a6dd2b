use Rattle.std.proofs.Common.{◌≡◌, ◌-◌, true, drop}
use Rattle.ranges.specs.Seen.{list_touches, turns_from}
use Rattle.ranges.specs.Ways.{after_uses, noted_in}
use Rattle.ranges.proofs.meeting_walk.+note.Given as goal

abbrev pub invariant-note_all-loop-s : goal.invariant-note_all-loop-s
invariant-note_all-loop-s l = record {
  loops : l.loops.items ≡ l.initial.loops.items;
  rest : after_uses l.lengths l.adds (list_touches (drop l.s-index l.all) l.initial.loops.items true) (noted_in l.meetings)
      ≡ after_uses l.lengths l.adds (list_touches l.all l.initial.loops.items true) (noted_in l.initial.meetings);
}

abbrev pub invariant-note_loop-loop-v : goal.invariant-note_loop-loop-v
invariant-note_loop-loop-v l = record {
  loops : l.loops.items ≡ l.initial.loops.items;
  rest : after_uses l.lengths l.adds (turns_from l.v l.bounds l.body l.initial.loops.items true) (noted_in l.meetings)
      ≡ after_uses l.lengths l.adds (turns_from l.bounds.first l.bounds l.body l.initial.loops.items true)
      (noted_in l.initial.meetings);
}

abbrev pub decreases-note_loop-loop-v : goal.decreases-note_loop-loop-v
decreases-note_loop-loop-v l = l.bounds.end - l.v
