use Rattle.std.proofs.Common.{subst, List}
use Rattle.ranges.specs.declared.slide.Slide.{Slide}
use Rattle.ranges.specs.Slides.{IsLatest, starts}
use Rattle.ranges.proofs.SlideOrder.{latest_taken}
use Rattle.ranges.proofs.slides.take_latest.Goals as goal

pub returns-clause-some : goal.returns-clause-some
returns-clause-some c =
    let slides = c.args.slides.now.items in
    let place = c.latest-place.result in
    latest_taken slides place c.remove.result c.remove.new.self.items
    (subst (λ (xs : List Slide). IsLatest (starts xs) place) c.deref.ensures.value c.latest-place.ensures)
    c.remove.ensures.value c.remove.ensures.items
