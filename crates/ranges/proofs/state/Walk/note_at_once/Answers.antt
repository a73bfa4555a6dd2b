use Rattle.std.proofs.Common.{Option, Vec, Global, subst, ◌∙◌}
use Rattle.std.specs.Prelude.{IfSome}
use Rattle.ranges.specs.declared.slide.Slide.{Slide}
use Rattle.ranges.specs.Seen.{seen_in}
use Rattle.ranges.specs.Slides.{AreSlidesOf}
use Rattle.ranges.proofs.SlidingTurns.{slides_noted}
use Rattle.ranges.proofs.state.Walk.note_at_once.Goals as goal

pub returns : goal.returns
returns c =
    let loops = c.args.loops.now in
    let accesses = c.args.accesses.now in
    let all = c.tight-all.result in
    c.in_ok-note_slides.ensures
    ∙ slides_noted c.args.lengths.now loops c.args.bounds all accesses c.in-Some.slides.items c.args.certain (seen_in c.args.self.now)
    (subst (λ (o : Option (Vec Slide Global)). IfSome o (λ slides. AreSlidesOf loops all c.args.certain accesses slides.items))
    c.in-Some.is c.in_ok-slides.ensures.are)
    c.tight-all.ensures.first c.tight-all.ensures.step c.tight-all.ensures.turns
