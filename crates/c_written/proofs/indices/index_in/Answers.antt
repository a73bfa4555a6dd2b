use Rattle.std.proofs.Common.{◌∙◌, ◌<◌, ◌+◌, ◌^◌, length, rules, arith, sym, ap}
use Rattle.std.specs.Option.{option_map}
use Rattle.std.proofs.lemmas.List.{length-map}
use Rattle.c_grammar.specs.Blocks.{Items}
use Rattle.c_grammar.specs.Grids.{Range, OnOperand, index, index_from}
use Rattle.c_terminals.specs.Ahead.{ahead}
use Rattle.c_written.specs.Indices.{ranges_of, seen_index}
use Rattle.c_terminals.specs.Seen.{seen, seen_all}
use Rattle.c_written.proofs.Subscripts.{index_closed, index_end, index_goes, index_short}
use Rattle.c_written.proofs.Targeting.{few_bare}
use Rattle.c_written.proofs.indices.index_in.Goals as goal

pub overflow_add-len : goal.overflow_add-len
overflow_add-len c =
    let small : length c.args.start.rest.now < 2 ^ 63 = search rules in
    let few = few_bare (seen_all c.args.start.rest.now) in
    let one = ap (λ (is : Items). length is) c.in-Some.ensures in
    let two = ap (λ (is : Items). length is) c.in_ok-operand.ensures in
    omega (arith, small, few, length-map c.args.start.rest.now seen, one, two, c.operators.invariant.place)

pub returns-then-is_sign : goal.returns-then-is_sign
returns-then-is_sign c = record {
  value = ap (λ (r : Range). index c.operators.len r) c.total-range.ensures
      ∙ sym (index_closed _ _ _ _ _ (ahead c.operators.ahead) _ (seen c.in-Some.operator) c.in-Some.ensures
      (sym c.is_sign.ensures ∙ c.if-is_sign.true)) ∙ c.operators.invariant.value;
  within =
      let one = ap (λ (is : Items). length is) c.in-Some.ensures in
      omega (arith, one, c.operators.invariant.place);
}

pub returns-in_err-operand-clause-value : goal.returns-in_err-operand-clause-value
returns-in_err-operand-clause-value c =
    ap (λ o. option_map seen_index o) c.from_residual-in_err-operand.ensures
    ∙ sym (index_short _ _ _ _ _ (ahead c.operators.ahead) _ (seen c.in-Some.operator) c.in-Some.ensures
    c.in_err-operand.ensures (sym c.is_sign.ensures ∙ c.if-is_sign.false)) ∙ c.operators.invariant.value

pub returns-in_err-sums-clause-value : goal.returns-in_err-sums-clause-value
returns-in_err-sums-clause-value c =
    let go : OnOperand = λ s minus p. index_from (ranges_of c.args.ranges.now) s minus p (c.operators.len + 2)
    (ahead c.next-in-Some.new.self) in
    ap (λ o. option_map seen_index o) c.from_residual-in_err-sums.ensures
    ∙ c.in_err-sums.ensures c.operators.len go
    ∙ sym (index_goes _ _ _ _ _ (ahead c.operators.ahead) _ _ (seen c.in-Some.operator) (seen c.in_ok-operand.operand)
    c.in-Some.ensures c.in_ok-operand.ensures (sym c.is_sign.ensures ∙ c.if-is_sign.false))
    ∙ c.operators.invariant.value

pub operators-preserved : goal.operators-preserved
operators-preserved c = record {
  value =
      let go : OnOperand = λ s minus p. index_from (ranges_of c.args.ranges.now) s minus p (c.operators.len + 2)
      (ahead c.next-in-Some.new.self) in
      c.in_ok-sums.ensures c.operators.len go
      ∙ sym (index_goes _ _ _ _ _ (ahead c.operators.ahead) _ _ (seen c.in-Some.operator) (seen c.in_ok-operand.operand)
      c.in-Some.ensures c.in_ok-operand.ensures (sym c.is_sign.ensures ∙ c.if-is_sign.false))
      ∙ c.operators.invariant.value;
  place =
      let one = ap (λ (is : Items). length is) c.in-Some.ensures in
      let two = ap (λ (is : Items). length is) c.in_ok-operand.ensures in
      omega (arith, one, two, c.operators.invariant.place);
}

pub returns-clause-value : goal.returns-clause-value
returns-clause-value c =
    sym (index_end _ _ _ _ _ (ahead c.operators.ahead) c.in_default.ensures) ∙ c.operators.invariant.value
