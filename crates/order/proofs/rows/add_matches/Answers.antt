use Rattle.std.proofs.Common.{take, subst}
use Rattle.std.specs.List.{All}
use Rattle.std.proofs.lemmas.List.{take_all}
use Rattle.std.proofs.lemmas.List.Elements.{All-more, All-weaker}
use Rattle.order.specs.Bare.{plan_of}
use Rattle.order.specs.Rows.{HasMatchesOf}
use Rattle.order.proofs.Overwritten.{all_of, one_of}
use Rattle.order.proofs.Touched.{all_meet}
use Rattle.order.proofs.rows.add_matches.Goals as goal

pub add_matches_by-requires-clause-depend : goal.add_matches_by-requires-clause-depend
add_matches_by-requires-clause-depend c = one_of c.args.items.now c.args.item c.loop-depend.depend-index
    c.index-items-item.result _ c.deref-depends.result.now c.requires.inside c.deref-depends.ensures c.loop-depend-test.true

pub add_matches_by-requires-clause-own : goal.add_matches_by-requires-clause-own
add_matches_by-requires-clause-own c = all_meet c.args.items.now c.args.touches.now c.args.item c.loop-depend.depend-index
    c.index-items-item.result c.deref-depends.result.now _ c.requires.touches c.requires.inside c.deref-depends.ensures
    c.loop-depend-test.true

pub loop-depend-preserved : goal.loop-depend-preserved
loop-depend-preserved c =
    let p = plan_of c.args.items.now in
    let i = c.args.item in
    let ds = c.deref-depends.result.now in
    let new = c.add_matches_by.new.row in
    let h = c.in_ok-add_matches_by.ensures in
    record {
      part = h.part;
      kept = λ k e. h.kept k (c.loop-depend.invariant.kept k e);
      matches = All-more (HasMatchesOf p i new) ds c.loop-depend.depend-index _ c.loop-depend-test.true
          (All-weaker (HasMatchesOf p i c.loop-depend.row) (HasMatchesOf p i new) (λ d has j later m. h.kept j (has j later m))
          (take c.loop-depend.depend-index ds) c.loop-depend.invariant.matches) h.matches;
    }

pub returns-clause-matches : goal.returns-clause-matches
returns-clause-matches c = all_of c.args.items.now c.args.item c.index-items-item.result c.loop-depend.row
    c.deref-depends.result.now c.requires.inside c.deref-depends.ensures
    (subst (All (HasMatchesOf (plan_of c.args.items.now) c.args.item c.loop-depend.row))
    (take_all c.loop-depend.depend-index c.deref-depends.result.now c.loop-depend-test.false) c.loop-depend.invariant.matches)
