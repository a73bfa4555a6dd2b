use Rattle.std.proofs.Common.{◌∙◌, None, Some, map, sym}
use Rattle.c_written.specs.Functions.{seen_passed}
use Rattle.c_written.proofs.CallParameters.{passed_filled, passed_odd, passed_turn}
use Rattle.c_written.proofs.calls.passed_to.Goals as goal

pub returns-then-parameters-list : goal.returns-then-parameters-list
returns-then-parameters-list c =
    sym (passed_odd (map (λ x. x.now) c.args.globals.now) c.args.parameters.now c.args.list.now (sym c.if-is_empty.ensures)
    c.if-parameters-list.true)

pub returns-then-not-branch : goal.returns-then-not-branch
returns-then-not-branch c =
    passed_turn (map (λ x. x.now) c.args.globals.now) c.args.parameters.now c.args.list.now c.parameters.k _ c.index-list-k.result
    c.deref.result.now (Some (seen_passed c.parameters.passed)) None c.parameters-test.true c.if-parameters-list.false c.index-list-k.is
    c.deref.ensures.value (rw c.if-not-branch.true at c.in_ok-pass.ensures)
    ∙ c.parameters.invariant
    ∙ sym (passed_filled (map (λ x. x.now) c.args.globals.now) c.args.parameters.now _ (sym c.if-is_empty.ensures))

pub parameters-preserved : goal.parameters-preserved
parameters-preserved c =
    passed_turn (map (λ x. x.now) c.args.globals.now) c.args.parameters.now c.args.list.now c.parameters.k _ c.index-list-k.result
    c.deref.result.now (Some (seen_passed c.parameters.passed)) (Some (seen_passed c.pass.new.self)) c.parameters-test.true
    c.if-parameters-list.false c.index-list-k.is c.deref.ensures.value (rw c.if-not-branch.false at c.in_ok-pass.ensures)
    ∙ c.parameters.invariant
