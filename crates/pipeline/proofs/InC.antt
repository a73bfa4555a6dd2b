-- What is answered of a program of which no expression may have another value in C: what it does there.
use Rattle.std.proofs.Common.{ℕ, ◌≡◌, true, List, Some, ◌∙◌}
use Rattle.base.specs.declared.tree.Program.{Program}
use Rattle.base.specs.declared.item.Answer.{Answer}
use Rattle.base.specs.Answer.{finals_in, marked_values}
use Rattle.base.specs.Meaning.{Plain, erased, output_of}
use Rattle.c_meaning.specs.Same.{SameErased, same_program}
use Rattle.pipeline.specs.InC.{AnswersAreThoseInC, IsAnswerInC}
use Rattle.pipeline.proofs.Runs.{Shows}

in_c : SameErased → (p : Program) (input : List ℕ) (a : Answer) → same_program p ≡ true → Shows p input a →
    IsAnswerInC p input a
in_c law p input a same h = record {
  plain = h.plain;
  is_in_c = law p input same ∙ h.is_erased;
  output = h.output;
  finals = h.finals;
}

pub answers_are_those_in_c : SameErased → AnswersAreThoseInC
answers_are_those_in_c law = record {
  by_choices = λ p input choices a same h. in_c law p input a same
      (record { plain = h.plain; is_erased = h.is_erased; output = h.output; finals = h.finals });
  on_threads = λ p input a same h. in_c law p input a same
      (record { plain = h.plain; is_erased = h.is_erased; output = h.output; finals = h.finals });
  by_actions = λ p input a same h. in_c law p input a same
      (record { plain = h.plain; is_erased = h.is_erased; output = h.output; finals = h.finals });
}
