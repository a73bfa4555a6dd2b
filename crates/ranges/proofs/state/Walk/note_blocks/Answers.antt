use Rattle.std.proofs.Common.{Option, Vec, Global, subst}
use Rattle.std.specs.Prelude.{IfSome}
use Rattle.ranges.specs.declared.slide.Slide.{Slide}
use Rattle.ranges.specs.Cases.{AreTurns, body_at}
use Rattle.ranges.specs.Seen.{seen_in}
use Rattle.ranges.proofs.TurnBlocks.{blocks_noted}
use Rattle.ranges.proofs.state.Walk.note_blocks.Goals as goal

pub returns : goal.returns
returns c =
    let b = c.args.bounds in
    let all = c.in-Some-block.all in
    let turns = c.in-Some.turns in
    blocks_noted c.args.lengths.now c.args.loops.now c.args.body.now c.args.certain b all c.in-Some-block.later turns
    c.in-Some-2.slides.items (seen_in c.args.self.now) (seen_in c.note_slides.new.self) c.in-Some-block.ensures.block
    c.in-Some-block.ensures.leaves
    (subst (λ (o : Option (Vec Slide Global)). IfSome o (λ slides. AreTurns all b.step turns (body_at c.args.body.now c.args.loops.now c.args.certain) slides.items))
    c.in-Some-2.is c.in_ok-slides.ensures.are)
    c.in_ok-note_slides.ensures
