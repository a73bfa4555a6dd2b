use Rattle.std.proofs.Common.{◌-◌, ◌∷◌, ◌++◌, [], List, take, sym, ap, ◌∙◌, subst}
use Rattle.std.proofs.lemmas.List.{take_more}
use Rattle.ranges.specs.declared.access.Access.{Access}
use Rattle.ranges.specs.declared.slide.Slide.{Slide}
use Rattle.ranges.specs.Slides.{AllFit, AreSlidesOf}
use Rattle.ranges.proofs.SlidingTurns.{one_fits, one_slide}
use Rattle.ranges.proofs.sliding.slides_of.Goals as goal

pub loop-access-preserved : goal.loop-access-preserved
loop-access-preserved c =
    let accesses = c.args.accesses.now in
    let i = c.loop-access.access-index in
    let a = c.access-item.result in
    let slides = c.loop-access.slides.items in
    let s = c.in-Some.slide in
    record {
      are =
          subst (λ (xs : List Access). AreSlidesOf c.args.loops.now c.args.bounds c.args.certain xs c.push.new.self.items)
          (sym (take_more accesses i a c.loop-access-test.true
          ∙ ap (λ (x : Access). take i accesses ++ x ∷ []) (sym c.access-item.is)))
          (subst (λ (ss : List Slide). AreSlidesOf c.args.loops.now c.args.bounds c.args.certain (take i accesses ++ a ∷ []) ss)
          (sym c.in_ok-push.ensures.items)
          (one_slide c.args.loops.now c.args.bounds c.args.certain (take i accesses) slides a s c.loop-access.invariant.are c.in-Some.ensures.is));
      fit =
          subst (λ (ss : List Slide). AllFit c.args.lengths.now (c.args.bounds.end - c.args.bounds.first) ss)
          (sym c.in_ok-push.ensures.items)
          (one_fits c.args.lengths.now (c.args.bounds.end - c.args.bounds.first) slides s c.loop-access.invariant.fit
          c.in-Some.ensures.fits);
    }
