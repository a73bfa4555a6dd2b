use Rattle.std.proofs.Common.{arith}
use Rattle.c_grammar.specs.Locals.{numbers}
use Rattle.c_locals.proofs.Turning.{last_turn, next_turn, no_turn, none_go, spent}
use Rattle.c_locals.proofs.loops.numbers.Goals.{then-turns-test+else-number-end, else-turns-test}
use Rattle.c_locals.proofs.loops.numbers.Goals as goal

pub turns-preserved : goal.turns-preserved
turns-preserved c =
    next_turn c.turns.numbers.items c.push.new.self.items (numbers c.args.most c.args.first c.args.step c.args.end) c.turns.left c.turns.number
    c.in-Some.next c.args.step c.args.end (omega (arith, c.turns-test.true)) (omega (arith, c.if-number-end.true)) c.in_ok-push.ensures.items
    (omega (arith, c.in-Some.ensures)) c.turns.invariant

pub returns-in-None : goal.returns-in-None
returns-in-None c =
    last_turn c.turns.numbers.items c.push.new.self.items (numbers c.args.most c.args.first c.args.step c.args.end) c.turns.left c.turns.number
    c.args.step c.args.end (omega (arith, c.turns-test.true)) (omega (arith, c.if-number-end.true))
    (omega (arith, c.in-None.ensures, c.ranges.end.fits)) c.in_ok-push.ensures.items c.turns.invariant

pub returns : goal.returns
returns c =
    no_turn c.turns.numbers.items (numbers c.args.most c.args.first c.args.step c.args.end) c.turns.left c.turns.number c.args.step c.args.end
    (elim c.turns-test.branch [
      | then-turns-test+else-number-end w ↦ none_go c.turns.left c.turns.number c.args.step c.args.end (omega (arith, w.if-number-end.false))
      | else-turns-test w ↦ spent c.turns.left c.turns.number c.args.step c.args.end (omega (arith, w.turns-test.false))
    ]) c.turns.invariant
