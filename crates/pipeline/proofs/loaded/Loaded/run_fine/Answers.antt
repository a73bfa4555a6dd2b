use Rattle.std.proofs.Common.{List, ℕ, subst}
use Rattle.pipeline.specs.Fine.{IsFineRunStopped, IsFineSourceAnswer}
use Rattle.pipeline.proofs.FineRuns.{fine_answer}
use Rattle.pipeline.proofs.loaded.Loaded.run_fine.Goals as goal

pub returns-in-Ok-clause-answer : goal.returns-in-Ok-clause-answer
returns-in-Ok-clause-answer c =
    subst (λ (bytes : List ℕ). IsFineSourceAnswer bytes c.args.input.now c.args.choices.now c.args.turns.now c.args.capacity c.in-Ok.answer)
    c.self.view_is
    (fine_answer c.erased_text_runs.ensures c.self.inside.bytes.now c.args.input.now c.args.choices.now c.args.turns.now
    c.args.capacity c.self.inside.outlined.now c.self.invariant.spelled c.self.invariant.few c.in-Ok.answer c.in-Ok.ensures.answer)

pub returns-in-Err-clause-fault : goal.returns-in-Err-clause-fault
returns-in-Err-clause-fault c =
    subst (λ (bytes : List ℕ). IsFineRunStopped bytes c.args.input.now c.args.choices.now c.args.turns.now c.args.capacity c.in-Err.fault)
    c.self.view_is
    (record {
      program = c.self.inside.outlined.now;
      spelled = c.self.invariant.spelled;
      few = c.self.invariant.few;
      stopped = c.in-Err.ensures.fault;
    })
