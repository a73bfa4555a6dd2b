use Rattle.std.proofs.Common.{ap}
use Rattle.driver.specs.Refused.{IsPlanFault, is_checked}
use Rattle.driver.proofs.Refusals.{of_check, of_none}
use Rattle.driver.proofs.Steps.{same_answer}
use Rattle.driver.proofs.running.answer.Goals as goal

pub returns-in-Checked-clause-answered : goal.returns-in-Checked-clause-answered
returns-in-Checked-clause-answered g c =
    same_answer c.answer_checked.result c.args.asked.way _ c.in-Checked.is c.args.asked.capacity (g.R.Read.remaining c.args.input.now) c.args.program.now _
    c.in-Ok.ensures.outlined c.answer_checked.ensures.answered

pub returns-in-Checked-clause-refused : goal.returns-in-Checked-clause-refused
returns-in-Checked-clause-refused g c =
    of_check c.answer_checked.result (is_checked c.args.asked.way) c.args.program.now _ c.in-Ok.ensures.outlined c.in-Ok.ensures.few
    (ap is_checked c.in-Checked.is) c.answer_checked.ensures.refused

pub returns-clause-answered : goal.returns-clause-answered
returns-clause-answered g c =
    same_answer c.answer_fine.result c.args.asked.way _ c.in-Fine.is c.args.asked.capacity (g.R.Read.remaining c.args.input.now) c.args.program.now _
    c.in-Ok.ensures.outlined c.answer_fine.ensures.answered

pub returns-clause-refused : goal.returns-clause-refused
returns-clause-refused g c =
    of_none (IsPlanFault (is_checked c.args.asked.way) c.args.program.now) c.answer_fine.result c.answer_fine.ensures.refused
