use Rattle.pipeline.specs.Source.{stopped_on_threads}
use Rattle.pipeline.proofs.Runs.{answer_on_threads, source_fault}
use Rattle.pipeline.proofs.threads.run_source_on_threads.Goals as goal

pub returns-clause-answer : goal.returns-clause-answer
returns-clause-answer g c =
    answer_on_threads c.erased_text_runs.ensures c.args.bytes.now c.args.input.now c.args.capacity c.in_ok-program.program _
    c.in_ok-outlined.ensures.outlined c.in_ok-program.ensures.spelled c.in_ok-outlined.ensures.few c.run_outlined_on_threads.result
    c.run_outlined_on_threads.ensures.answer

pub returns-clause-fault : goal.returns-clause-fault
returns-clause-fault g c =
    source_fault (stopped_on_threads c.args.input.now c.args.capacity) c.args.bytes.now c.in_ok-program.program _
    c.in_ok-outlined.ensures.outlined c.in_ok-program.ensures.spelled c.in_ok-outlined.ensures.few c.run_outlined_on_threads.result
    c.run_outlined_on_threads.ensures.fault
