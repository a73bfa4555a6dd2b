use Rattle.std.proofs.Common.{ℕ, false, length, ap, subst}
use Rattle.std.proofs.lemmas.Result.{IfOk-weaker}
use Rattle.base.specs.Meaning.{lengths_of}
use Rattle.ranges.specs.Reach.{AreLeastRuns, touched_by}
use Rattle.mapwalk.specs.Regions.{IsFootprintOf}
use Rattle.mapcheck.proofs.Reached.{none_reached, print_reached}
use Rattle.mapcheck.proofs.reaches.item_reach.Goals as goal

pub returns-in-None : goal.returns-in-None
returns-in-None c w h =
    IfOk-weaker c.no_reach.result _ _
    (λ runs k. none_reached (lengths_of c.args.outlined.now) w runs.items (subst (IsFootprintOf w) c.in-None.is h)
    (subst (λ (n : ℕ). AreLeastRuns (λ d. false) n runs.items) (ap length c.lengths.ensures.lengths) k))
    c.no_reach.ensures

pub returns-in-Some : goal.returns-in-Some
returns-in-Some c w h =
    let f = c.in-Some.footprint in
    IfOk-weaker c.reach.result _ _
    (λ runs k. print_reached (lengths_of c.args.outlined.now) w f runs.items (subst (IsFootprintOf w) c.in-Some.is h)
    (subst (λ (n : ℕ). AreLeastRuns (touched_by f) n runs.items) (ap length c.lengths-in-Some.ensures.lengths) k))
    c.reach.ensures
