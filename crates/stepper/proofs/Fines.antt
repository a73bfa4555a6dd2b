-- What a whole run answers.
use Rattle.std.proofs.Common.{◌≡◌, ℕ, List, map, sym, ap, ◌∙◌, subst}
use Rattle.std.specs.Prelude.{slice_index}
use Rattle.base.specs.declared.item.Answer.{Answer}
use Rattle.base.specs.declared.tree.ArrayId.{ArrayId}
use Rattle.base.specs.declared.tree.Program.{Program}
use Rattle.base.specs.Accepted.{IsAccepted}
use Rattle.base.specs.Answer.{array_values}
use Rattle.base.specs.Items.{plan}
use Rattle.base.specs.Meaning.{output_of}
use Rattle.device.proofs.Answers.{finals_are}
use Rattle.fine_headline.proofs.Headline.{headline}
use Rattle.fine_machine.specs.Machine.{HasEnded}
use Rattle.stepper.specs.declared.standing.Standing.{Standing}
use Rattle.stepper.specs.Answering.{AreShown, HasRun, IsAnswerOf, IsErasedAnswer, IsFineAnswer, row_in}
use Rattle.stepper.specs.Run.{Run, fill_in, order_in, state_of}
use Rattle.stepper.specs.Running.{HasCome, IsAnswerAt, row_at}
use Rattle.stepper.specs.Standing.{IsAt}
use Rattle.stepper.proofs.Plays.{Plays}

-- the answer of the code's values is that of the state that they show
pub answer_at : (r : Run) (now : Standing) (arrays : List ArrayId) (a : Answer) → IsAt (plan r.program) now (state_of r) →
    IsAnswerOf now arrays r.history a → IsAnswerAt r arrays a
answer_at r now arrays a at of = record {
  out = of.out ∙ ap (λ xs. output_of xs) (sym at.output);
  finals = of.finals ∙ ap (λ (f : ArrayId → ℕ × List ℕ). map f arrays) (λ i b. row b i);
  history = of.history;
}
  where
    row : (b : ArrayId) → row_in now.host b ≡ row_at r b
    row b = λ i. (b.0, array_values (sym at.host i) b.0 (slice_index (at.lengths i) b.0))

module _ (p : Program) (input choices turns : List ℕ) (capacity : ℕ) (r : Run)
    (plays : Plays p input choices turns capacity r) (come : HasCome r) (ended : HasEnded (plan r.program) (state_of r)) (arrays : List ArrayId) (a : Answer)
    (of : IsAnswerAt r arrays a) where
  erased : AreShown r.program arrays → IsAccepted (plan r.program) → IsErasedAnswer r.program r.input a
  erased shown accepted =
      let shows = (headline r.program accepted).shows r.input (fill_in r) (order_in r) r.history (state_of r) come.numbers
      (λ i c. come.fresh) come.ran ended in
      record {
        plain = shows.plain;
        is_erased = shows.is_erased;
        output = of.out ∙ ap (λ xs. output_of xs) shows.output;
        finals =
            of.finals
            ∙ finals_are r.program (state_of r).memories.host shows.plain.memory arrays (shown.accepted accepted)
            shows.marked;
      }

  own : AreShown r.program arrays → IsFineAnswer r.program r.input choices r.order r.capacity a
  own shown = record {
    fine = shown.fine;
    fill = fill_in r;
    end = state_of r;
    ran =
        subst (λ es. HasRun r.program r.input choices r.capacity (fill_in r) (order_in r) es (state_of r)) (sym of.history) plays.ran;
    ended = ended;
    output = of.out;
    accepted = erased shown;
    refused = λ no_it. of.finals ∙ ap (λ xs. map (row_at r) xs) (shown.refused no_it);
  }

  pub answers : AreShown p arrays → IsFineAnswer p input choices turns capacity a
  answers shown =
      subst (λ q. IsFineAnswer q input choices turns capacity a) plays.program
      (subst (λ xs. IsFineAnswer r.program xs choices turns capacity a) plays.given
      (subst (λ ns. IsFineAnswer r.program r.input choices ns capacity a) plays.order
      (subst (λ n. IsFineAnswer r.program r.input choices r.order n a) plays.room
      (own (subst (λ q. AreShown q arrays) (sym plays.program) shown)))))
