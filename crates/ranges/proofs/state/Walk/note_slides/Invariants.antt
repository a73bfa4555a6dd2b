use Rattle.std.proofs.Common.{◌≡◌, ◌-◌, length}
use Rattle.base.specs.Meaning.{turns_of}
use Rattle.ranges.specs.Seen.{after, seen_in}
use Rattle.ranges.specs.Slides.{AllFit, AllMoveBy, slide_turns, slope_in}
use Rattle.ranges.proofs.state.Walk.note_slides.Given as goal

abbrev pub invariant-loop-slide : goal.invariant-loop-slide
invariant-loop-slide l = record {
  fit : AllFit l.lengths (l.turns.end - l.turns.first) l.slides.items;
  alike : AllMoveBy (slope_in l.initial.slides.items) l.slides.items;
  rest : after l.lengths (slide_turns l.turns.step (turns_of l.turns) 0 l.slides.items) (seen_in l.self)
      ≡ after l.lengths (slide_turns l.turns.step (turns_of l.turns) 0 l.initial.slides.items) (seen_in l.initial.self);
}

abbrev pub decreases-loop-slide : goal.decreases-loop-slide
decreases-loop-slide l = length l.slides.items
