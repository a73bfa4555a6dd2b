use Rattle.std.proofs.Common.{◌+◌, ◌<◌, ◌≤◌, length, ⊎_elim, sym, ◌∙◌, arith}
use Rattle.std.proofs.lemmas.Bool.{cases_lt}
use Rattle.order.proofs.Touched.{Found, found, not_before}
use Rattle.order.proofs.Walked.{agrees, asked_next, asked_there, met_before, over_found}
use Rattle.order.proofs.rows.add_touched.Goals as goal

pub returns-clause-matches : goal.returns-clause-matches
returns-clause-matches c = λ j later m.
    let its = c.args.items.now in
    let ts = c.args.touches.now in
    let d = c.args.depend.now in
    let first = c.first_later-first.result in
    let end : length ts ≤ c.loop-at.at = c.loop-at-test.false in
    let f : Found ts d.section j = found its ts d j c.requires.touches c.requires.own m in
    let inside : f.at < length ts = f.inside in
    asked_there its d ts first c.loop-at.at j c.loop-at.row f c.loop-at.invariant.asked
    (not_before ts d.section c.args.item j first (record { section = d.section; item = j }) f later
    c.first_later-first.ensures.earlier)
    (omega (arith, end, inside)) m

pub returns-then-ne-clause-matches : goal.returns-then-ne-clause-matches
returns-then-ne-clause-matches c = λ j later m.
    let its = c.args.items.now in
    let ts = c.args.touches.now in
    let d = c.args.depend.now in
    let first = c.first_later-first.result in
    let f : Found ts d.section j = found its ts d j c.requires.touches c.requires.own m in
    asked_there its d ts first c.loop-at.at j c.loop-at.row f c.loop-at.invariant.asked
    (not_before ts d.section c.args.item j first (record { section = d.section; item = j }) f later
    c.first_later-first.ensures.earlier)
    (met_before ts its _ d.section c.args.item j c.loop-at.at first _ c.ne.result f c.requires.touches
    c.first_later-first.ensures.later c.loop-at.invariant.from c.loop-at-test.true c.ne.ensures c.if-ne.true) m

pub returns-then-is_overwritten-clause-matches : goal.returns-then-is_overwritten-clause-matches
returns-then-is_overwritten-clause-matches c = λ j later m.
    let its = c.args.items.now in
    let ts = c.args.touches.now in
    let d = c.args.depend.now in
    let at = c.loop-at.at in
    let first = c.first_later-first.result in
    let new = c.add_match.new.row in
    let f : Found ts d.section j = found its ts d j c.requires.touches c.requires.own m in
    ⊎_elim (λ (lt : f.at < at + 1). asked_there its d ts first (at + 1) j new f
    (asked_next its d ts first at c.loop-at.row new _ c.loop-at-test.true c.loop-at.invariant.asked
    c.in_ok-has.ensures.kept c.in_ok-has.ensures.asked)
    (not_before ts d.section c.args.item j first (record { section = d.section; item = j }) f later
    c.first_later-first.ensures.earlier) lt m)
    (λ (le : at + 1 ≤ f.at). over_found its d ts c.args.item j at _ _ c.index-items-touch.result c.deref.result.now new f
    c.requires.touches c.in_ok-has.ensures.part (omega (arith, le)) (agrees d.section _ c.ne.result c.ne.ensures c.if-ne.false)
    (c.in_ok-has.ensures.has c.if-has.true) (c.requires.touches.inside at _ c.loop-at-test.true) c.deref.ensures
    (sym c.is_overwritten.ensures ∙ c.if-is_overwritten.true) m)
    (cases_lt f.at (at + 1))

pub loop-at-preserved : goal.loop-at-preserved
loop-at-preserved c =
    let from : c.first_later-first.result ≤ c.loop-at.at = c.loop-at.invariant.from in
    record {
      from = omega (arith, from);
      part = c.in_ok-has.ensures.part;
      kept = λ k e. c.in_ok-has.ensures.kept k (c.loop-at.invariant.kept k e);
      asked = asked_next c.args.items.now c.args.depend.now c.args.touches.now c.first_later-first.result c.loop-at.at
          c.loop-at.row c.add_match.new.row _ c.loop-at-test.true c.loop-at.invariant.asked c.in_ok-has.ensures.kept
          c.in_ok-has.ensures.asked;
    }
