use Rattle.ranges.proofs.CaseSlides.{one_added}
use Rattle.ranges.proofs.cases.add_access.Goals as goal

pub returns-in_ok-push-in-Some : goal.returns-in_ok-push-in-Some
returns-in_ok-push-in-Some c holds =
    let turns = c.args.turns.now in
    one_added turns.lengths.now turns.loops.now turns.bounds c.args.certain c.args.access.now c.in-Some.slide c.args.slides.now.items
    c.push.new.self.items c.in-Some.ensures.is c.in-Some.ensures.fits c.in_ok-push-in-Some.ensures.items
