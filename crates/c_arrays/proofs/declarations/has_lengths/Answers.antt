use Rattle.std.proofs.Common.{◌≡◌, ◌∙◌, ◌-◌, suc, sym, arith}
use Rattle.c_terminals.specs.Ahead.{ahead}
use Rattle.c_arrays.proofs.Lengths.{last_length, more_lengths, no_length, no_lengths}
use Rattle.c_arrays.proofs.declarations.has_lengths.Goals as goal

pub returns-in_default : goal.returns-in_default
returns-in_default c =
    let more : c.lengths.left ≡ suc (c.lengths.left - 1) = omega (arith, c.lengths-test.true) in
    no_length c.lengths.left (c.lengths.left - 1) (ahead c.lengths.ahead) more c.in_default.ensures ∙ c.lengths.invariant

pub returns-then-ends_array : goal.returns-then-ends_array
returns-then-ends_array c =
    let more : c.lengths.left ≡ suc (c.lengths.left - 1) = omega (arith, c.lengths-test.true) in
    last_length c.lengths.left (c.lengths.left - 1) (ahead c.lengths.ahead) (ahead c.in-Some.behind) more c.in-Some.ensures
    (sym c.if-ends_array.true ∙ c.ends_array.ensures) ∙ c.lengths.invariant

pub lengths-preserved : goal.lengths-preserved
lengths-preserved c =
    let more : c.lengths.left ≡ suc (c.lengths.left - 1) = omega (arith, c.lengths-test.true) in
    more_lengths c.lengths.left (c.lengths.left - 1) (ahead c.lengths.ahead) (ahead c.in-Some.behind) more c.in-Some.ensures
    (sym c.if-ends_array.false ∙ c.ends_array.ensures) ∙ c.lengths.invariant

pub returns : goal.returns
returns c =
    no_lengths c.lengths.left (ahead c.lengths.ahead) (omega (arith, c.lengths-test.false)) ∙ c.lengths.invariant
