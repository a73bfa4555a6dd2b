use Rattle.std.proofs.Common.{arith, ◌++◌, ◌∷◌, [], ap, sym, ◌∙◌}
use Rattle.std.specs.Prelude.{decimal, slice_index}
use Rattle.device.proofs.Answers.{output_more}
use Rattle.std.proofs.lemmas.Grind.{common_steps}
use Rattle.device.proofs.output.text_of.Goals as goal

pub loop-n-preserved : goal.loop-n-preserved
loop-n-preserved c =
    let printed = c.args.printed.now in
    let i = c.loop-n.n-index in
    c.in_ok-add_line.ensures
    ∙ ap (λ b. b ++ (decimal (slice_index printed i) ++ 10 ∷ [])) c.loop-n.invariant
    ∙ sym (output_more printed i 0 c.loop-n-test.true)

pub returns : goal.returns
returns c = grind (arith, common_steps)
