use Rattle.std.proofs.Common.{◌∙◌}
use Rattle.std.proofs.lemmas.Result.{on_ok_weaker}
use Rattle.actions.proofs.Controls.{strand_same}
use Rattle.actions.proofs.control.Control.begin.Goals as goal

pub returns-clause-same : goal.returns-clause-same
returns-clause-same c =
    on_ok_weaker c.settle.result
    (λ same. same ∙ strand_same c.args.self.now c.advance.new.self c.in_ok-advance.ensures.same) c.settle.ensures.same
