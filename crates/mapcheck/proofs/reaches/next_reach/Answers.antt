use Rattle.std.proofs.Common.{length, refl}
use Rattle.base.specs.Items.{plan}
use Rattle.mapwalk.specs.Found.{all_found}
use Rattle.mapwalk.proofs.Prints.{at_inside, found_at}
use Rattle.mapcheck.proofs.Reached.{copied_reach}
use Rattle.mapcheck.proofs.reaches.next_reach.Goals as goal

pub returns-in-Some : goal.returns-in-Some
returns-in-Some c w there =
    copied_reach (plan c.args.outlined.now) c.args.repeats.now (length c.args.before.now) c.in-Some.earlier w
    c.args.before.now c.index-before-earlier.result c.deref.result.now c.from_slice.result c.requires.repeats
    c.requires.before c.requires.inside there c.in-Some.is c.index-before-earlier.is c.deref.ensures.value
    c.from_slice.ensures.items

pub returns-in-None : goal.returns-in-None
returns-in-None c w there =
    let p = plan c.args.outlined.now in
    let n = length c.args.before.now in
    let found = all_found c.args.found.now in
    c.item_reach.ensures w
    (found_at p found n n w c.get.result.now c.requires.found there refl
    (at_inside p n w found n c.requires.found there refl) c.get.ensures).touches
