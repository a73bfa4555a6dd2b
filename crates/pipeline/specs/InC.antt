-- What is answered of a program of which no expression may have another value in C: what it does there.
use Rattle.std.specs.Prelude.{ℕ, ◌≡◌, true, List, Some}
use Rattle.base.specs.declared.tree.Program.{Program}
use Rattle.base.specs.declared.item.Answer.{Answer}
use Rattle.base.specs.Answer.{IsAnswer, finals_in, marked_values}
use Rattle.base.specs.Meaning.{Plain, output_of}
use Rattle.c_meaning.specs.Programs.{c_erased}
use Rattle.c_meaning.specs.Same.{same_program}
use Rattle.host.specs.Threads.{IsThreadAnswer}
use Rattle.stepper.specs.Answering.{IsErasedAnswer}

-- the output is that of the program in C without its directives, and the finals are the numbers that it leaves in the
-- arrays marked current
pub record IsAnswerInC (p : Program) (input : List ℕ) (a : Answer) : Type 0 where
  pub plain : Plain
  pub is_in_c : c_erased p input ≡ Some plain
  pub output : a.out.items ≡ output_of plain.printed
  pub finals : finals_in a ≡ marked_values p plain.memory

-- where every expression of a program passes the test, its answers by choices, on threads and action by action are such
pub record AnswersAreThoseInC : Type 0 where
  pub by_choices : (p : Program) (input choices : List ℕ) (a : Answer) → same_program p ≡ true →
      IsAnswer p input choices a → IsAnswerInC p input a
  pub on_threads : (p : Program) (input : List ℕ) (a : Answer) → same_program p ≡ true →
      IsThreadAnswer p input a → IsAnswerInC p input a
  pub by_actions : (p : Program) (input : List ℕ) (a : Answer) → same_program p ≡ true →
      IsErasedAnswer p input a → IsAnswerInC p input a
