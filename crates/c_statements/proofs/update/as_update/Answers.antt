use Rattle.std.proofs.Common.{◌∙◌, ap, sym}
use Rattle.c_statements.specs.Updates.{as_update}
use Rattle.c_statements.proofs.Extremes.{update_if}
use Rattle.c_statements.proofs.update.as_update.Goals as goal

pub returns-in-If : goal.returns-in-If
returns-in-If c =
    c.extreme_or_choice.ensures ∙ update_if c.in-If.test c.in-If.first c.in-If.others ∙ ap as_update (sym c.in-If.is)
