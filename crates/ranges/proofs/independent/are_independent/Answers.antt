use Rattle.std.proofs.Common.{◌≡◌, ◌∙◌, ◌<◌, ◌≤◌, ◌++◌, List, ℕ, ap, arith, length, refl, subst, sym, ⊎_elim}
use Rattle.std.proofs.lemmas.Bool.{cases_lt}
use Rattle.base.specs.declared.item.Cell.{Cell}
use Rattle.ranges.specs.Cells.{has}
use Rattle.ranges.specs.Strides.{AllApart, nest_highs, nest_lows}
use Rattle.ranges.proofs.IndependentTurns.{independent}
use Rattle.ranges.proofs.independent.are_independent.Goals as goal

pub loop-a-init : goal.loop-a-init
loop-a-init c = record {
  lows = c.in_ok-push_nest.ensures.lows ∙ ap (λ (xs : List ℕ). xs ++ nest_lows c.args.depth c.args.nest.now) c.in_ok-span.ensures.lows;
  highs = c.in_ok-push_nest.ensures.highs ∙ ap (λ (xs : List ℕ). xs ++ nest_highs c.args.depth c.args.nest.now) c.in_ok-span.ensures.highs;
  apart = λ x lt h. absurd (omega (arith, lt));
}

pub agree_in_array-requires : goal.agree_in_array-requires
agree_in_array-requires c = (c.args.loops.now, (c.loop-a.invariant.lows, refl))

pub loop-a-preserved : goal.loop-a-preserved
loop-a-preserved c =
    let loops = c.args.loops.now in
    let d = c.args.depth in
    let nest = c.args.nest.now in
    let body = c.turn_body-body.result.now in
    record {
      lows = c.in_ok-agree_in_array.ensures.lows ∙ c.loop-a.invariant.lows;
      highs = c.in_ok-agree_in_array.ensures.highs ∙ c.loop-a.invariant.highs;
      apart = λ (x : Cell) lt h.
          ⊎_elim (λ (less : x.array.0 < c.loop-a.a). c.loop-a.invariant.apart x less h)
          (λ (le : c.loop-a.a ≤ x.array.0).
          subst (λ (xs : List ℕ). AllApart x.array.0 (length loops) d nest body xs (loops ++ nest_highs d nest)) c.loop-a.invariant.lows
          (subst (λ (xs : List ℕ). AllApart x.array.0 (length loops) d nest body c.loop-a.span.lows.items xs) c.loop-a.invariant.highs
          (c.in_ok-agree_in_array.ensures.apart c.if-not-branch.false x (omega (arith, lt, le)) h)))
          (cases_lt x.array.0 c.loop-a.a);
    }

pub returns : goal.returns
returns c holds =
    independent c.args.depth c.args.nest.now c.args.loops.now c.turn_body-body.result.now (has c.args.write.now) c.loop-a.a
    c.turn_body-body.ensures c.requires.scalars c.requires.write
    (λ x le. c.arrays-a-end.ensures.none x (let past = c.loop-a-test.false in omega (arith, le, past)))
    c.loop-a.invariant.apart
