-- What is answered where a mend is run.
use Rattle.pipeline.proofs.Runs.{by_choices_shows, on_threads_shows, plain_answer}
use Rattle.same_text.proofs.Laws.{mend_erases}
use Rattle.mend_runs.specs.Laws.{MendRunsByChoices, MendRunsOnThreads, MendSteps}

pub mend_runs_by_choices : MendRunsByChoices
mend_runs_by_choices bytes text input choices capacity a q e s r =
    plain_answer s.program q input a (by_choices_shows s.program input choices capacity a s.answer.answer)
    (mend_erases text bytes s.program q e s.spelled r)

pub mend_runs_on_threads : MendRunsOnThreads
mend_runs_on_threads bytes text input capacity a q e s r =
    plain_answer s.program q input a (on_threads_shows s.program input capacity a s.answer.answer)
    (mend_erases text bytes s.program q e s.spelled r)

pub mend_steps : MendSteps
mend_steps bytes text input choices turns capacity a q e s accepted r =
    let h = s.answer.accepted accepted in
    plain_answer s.program q input a
    (record { plain = h.plain; is_erased = h.is_erased; output = h.output; finals = h.finals })
    (mend_erases text bytes s.program q e s.spelled r)
