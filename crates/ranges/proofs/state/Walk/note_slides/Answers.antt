use Rattle.std.proofs.Common.{List, ◌-◌, ap, ◌∙◌, sym, arith}
use Rattle.base.specs.Meaning.{turns_of}
use Rattle.ranges.specs.declared.slide.Slide.{Slide}
use Rattle.ranges.specs.Seen.{after, seen_in}
use Rattle.ranges.specs.Slides.{slide_turns, slope_in}
use Rattle.ranges.proofs.SlideTurns.{next_run, no_slides, others_alike, others_fit, taken_fits}
use Rattle.ranges.proofs.state.Walk.note_slides.Goals as goal

pub cells_of-requires : goal.cells_of-requires
cells_of-requires c =
    let turns = c.args.turns in
    let fits = taken_fits c.args.lengths.now (turns.end - turns.first) c.loop-slide.slides.items c.take_latest.new.slides.items
    c.in-Some.slide c.in-Some.ensures.some c.loop-slide.invariant.fit in
    let short = c.type_inv.lengths c.in-Some.slide.array.0 in
    let last = fits.inside in
    record {
      ahead = c.requires.some;
      step = c.requires.small;
      moves = fits.moves;
      small = fits.small;
      inside = omega (arith, last, short);
    }

pub note_run-requires : goal.note_run-requires
note_run-requires c =
    let turns = c.args.turns in
    let fits = taken_fits c.args.lengths.now (turns.end - turns.first) c.loop-slide.slides.items c.take_latest.new.slides.items
    c.in-Some.slide c.in-Some.ensures.some c.loop-slide.invariant.fit in
    let short = c.type_inv.lengths c.in-Some.slide.array.0 in
    let last = fits.inside in
    let end = c.cells_of.ensures.end in
    omega (arith, last, short, end)

pub loop-slide-preserved : goal.loop-slide-preserved
loop-slide-preserved c =
    let lengths = c.args.lengths.now in
    let turns = c.args.turns in
    let f = slope_in c.args.slides.now.items in
    let old = c.loop-slide.slides.items in
    let new = c.take_latest.new.slides.items in
    let s = c.in-Some.slide in
    record {
      fit = others_fit lengths (turns.end - turns.first) old new s c.in-Some.ensures.some c.loop-slide.invariant.fit;
      alike =
          others_alike lengths (turns.end - turns.first) old new s c.in-Some.ensures.some c.loop-slide.invariant.fit f
          c.loop-slide.invariant.alike;
      rest =
          next_run lengths turns c.cells_of.result f old new s (seen_in c.loop-slide.self) (seen_in c.note_run.new.self)
          c.requires.some c.in-Some.ensures.some c.loop-slide.invariant.fit c.loop-slide.invariant.alike
          (record { first = c.cells_of.ensures.first; end = c.cells_of.ensures.end; step = c.cells_of.ensures.step })
          c.in_ok-note_run.ensures
          ∙ c.loop-slide.invariant.rest;
    }

pub returns : goal.returns
returns c =
    let turns = c.args.turns in
    sym (no_slides c.args.lengths.now turns.step (turns_of turns) 0 (seen_in c.loop-slide.self))
    ∙ ap (λ (zs : List Slide). after c.args.lengths.now (slide_turns turns.step (turns_of turns) 0 zs) (seen_in c.loop-slide.self))
    (sym c.in_default.ensures.none)
    ∙ c.loop-slide.invariant.rest
