use Rattle.std.proofs.Common.{◌∙◌}
use Rattle.std.specs.Cmp.Lexicographic.{other_text}
use Rattle.witness.proofs.Ends.{done_end}
use Rattle.witness.proofs.trial.try_lists.Goals as goal

pub returns-else-eq : goal.returns-else-eq
returns-else-eq c =
    record {
      end = done_end c.args.trials c.args.choices.items c.args.turns.items c.deref.result.now c.deref-2.result.now c.in_ok-answer.field-0
          c.in-Ended-Done.field-0 c.in-Ended-Done.answer c.deref.ensures.value c.deref-2.ensures.value c.in-Ended-Done.is
          c.in-Ended-Done.field-0-is c.in_ok-answer.ensures;
      differs = λ e. other_text c.as_slice.result.now c.args.trials.plain.now c.if-eq.ensures (c.as_slice.ensures.value ∙ e);
    }
