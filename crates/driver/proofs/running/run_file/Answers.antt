use Rattle.pipeline.specs.Checking.{IsRefused}
use Rattle.driver.specs.Printed.{IsPrinted, answers_of}
use Rattle.driver.specs.Refused.{IsPlanFault, IsRefusedOf, is_checked}
use Rattle.driver.proofs.Refusals.{by_wider, handed_up, is_sought, of_bytes}
use Rattle.driver.proofs.Meanings.{without_directives}
use Rattle.driver.proofs.Requests.{of_source}
use Rattle.driver.proofs.running.run_file.Goals as goal

pub returns-in_err-answer-clause-refused : goal.returns-in_err-answer-clause-refused
returns-in_err-answer-clause-refused g c =
    let source = g.S.Sources.known c.args.sources.now c.args.asked.file.now in
    let e = c.in_err-answer.field-0.0 in
    let checked = is_checked c.args.asked.way in
    handed_up (IsRefusedOf checked source) c.from_residual-in_err-answer.result e c.from_residual-in_err-answer.ensures.1
    (by_wider (IsPlanFault checked c.in-Ok.program) (IsRefusedOf checked source) e (λ f h. (
      is_sought checked c.in-Ok.program f h,
      of_source source (λ bytes. IsRefused bytes f) c.in_ok-bytes.bytes.items c.deref.result.now c.in_ok-bytes.ensures.bytes c.deref.ensures.value
          (of_bytes checked c.deref.result.now c.in-Ok.program f c.in-Ok.ensures.spelled h),
    )) c.in_err-answer.ensures.refused)

pub returns-in-Ok-write_answer-clause-printed : goal.returns-in-Ok-write_answer-clause-printed
returns-in-Ok-write_answer-clause-printed g c =
    λ _. of_source (g.S.Sources.known c.args.sources.now c.args.asked.file.now)
    (λ bytes. IsPrinted (answers_of c.args.asked.way c.args.asked.capacity) c.args.asked.log c.args.asked.maps c.args.asked.finals bytes (g.R.Read.remaining c.args.input.now)
    (g.W.Write.contents c.args.out.now) (g.W.Write.contents c.write_answer.new.out))
    c.in_ok-bytes.bytes.items c.deref.result.now c.in_ok-bytes.ensures.bytes c.deref.ensures.value (record {
      program = c.in-Ok.program;
      spelled = c.in-Ok.ensures.spelled;
      answer = c.in_ok-answer.answer;
      answered = c.in_ok-answer.ensures.answered;
      without = without_directives c.erased_text_runs.ensures c.args.asked.way c.args.asked.capacity c.in_ok-answer.ensures.answered.input
          c.deref.result.now c.in-Ok.program c.in_ok-answer.answer c.in-Ok.ensures.spelled c.in_ok-answer.ensures.answered.answer;
      written = c.in-Ok-write_answer.ensures;
    })
