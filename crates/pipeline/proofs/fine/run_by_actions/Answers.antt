use Rattle.pipeline.proofs.FineRuns.{shown_fault}
use Rattle.pipeline.proofs.fine.run_by_actions.Goals as goal

pub returns-in-Err-clause-fault : goal.returns-in-Err-clause-fault
returns-in-Err-clause-fault c =
    shown_fault c.args.bytes.now c.args.input.now c.args.choices.now c.args.turns.now c.args.capacity c.args.outlined.now
    c.requires.spelled c.requires.few c.in-Err.fault c.in-Err.ensures.fault
