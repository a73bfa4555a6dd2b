use Rattle.mend.proofs.Verdicts.{on_text}
use Rattle.mend.proofs.judge.check_text.Goals as goal

pub returns : goal.returns
returns c =
    on_text c.check_outlined.result c.args.text.now c.in-Ok.program _ c.in-Ok-outline.ensures.outlined c.in-Ok.ensures.found
    c.in-Ok-outline.ensures.few c.check_outlined.ensures
