use Rattle.pipeline.specs.Source.{stopped_by_choices}
use Rattle.pipeline.proofs.Runs.{answer_by_choices, source_fault}
use Rattle.pipeline.proofs.source.run_source.Goals as goal

pub returns-clause-answer : goal.returns-clause-answer
returns-clause-answer c =
    answer_by_choices c.erased_text_runs.ensures c.args.bytes.now c.args.input.now c.args.choices.now c.args.capacity c.in_ok-program.program _
    c.in_ok-outlined.ensures.outlined c.in_ok-program.ensures.spelled c.in_ok-outlined.ensures.few c.run_outlined.result
    c.run_outlined.ensures.answer

pub returns-clause-fault : goal.returns-clause-fault
returns-clause-fault c =
    source_fault (stopped_by_choices c.args.input.now c.args.choices.now c.args.capacity) c.args.bytes.now
    c.in_ok-program.program _ c.in_ok-outlined.ensures.outlined c.in_ok-program.ensures.spelled c.in_ok-outlined.ensures.few
    c.run_outlined.result c.run_outlined.ensures.fault
