-- What is answered where a source is run.
use Rattle.std.proofs.Common.{◌≡◌, ℕ, ◌≤◌, List, Option, Some, None, length, sym, ap, ◌∙◌, subst, refl}
use Rattle.std.specs.Prelude.{Result, Ok, Err, IfErr, IfOk}
use Rattle.base.specs.declared.tree.Program.{Program}
use Rattle.base.specs.declared.item.Answer.{Answer}
use Rattle.base.specs.declared.fault.RunFault.{RunFault}
use Rattle.base.specs.declared.fault.SourceFault.{SourceFault}
use Rattle.base.specs.declared.fault.SourceFault.TheVariants.{Read, Outline, Check, Run}
use Rattle.base.specs.Accepted.{IsAccepted}
use Rattle.base.specs.Answer.{finals_in, marked_values}
use Rattle.base.specs.Items.{plan}
use Rattle.base.specs.Limits.{most_items}
use Rattle.base.specs.Meaning.{Plain, erased, lengths_of, output_of}
use Rattle.c_read.specs.Spells.{Spells}
use Rattle.erased_meaning.specs.Laws.{ErasedTextRuns, IsErased, SameEnd, SameRun}
use Rattle.mapcheck.specs.Passes.{IsCheckFault}
use Rattle.pipeline.specs.Source.{Answers, Faults, IsAcceptedAnswer, IsPlainAnswer, IsProgramFault, IsRunStopped, IsSourceAnswer, IsSourceFault, by_choices, first_arrays, on_threads}
use Rattle.pipeline.proofs.FirstArrays.{same_first}

-- what an answer shows of the erased program
pub record Shows (p : Program) (input : List ℕ) (a : Answer) : Type 0 where
  pub plain : Plain
  pub is_erased : erased p input ≡ Some plain
  pub output : a.out.items ≡ output_of plain.printed
  pub finals : finals_in a ≡ marked_values p plain.memory

pub by_choices_shows : (p : Program) (input choices : List ℕ) (capacity : ℕ) (a : Answer) →
    by_choices input choices capacity p a → Shows p input a
by_choices_shows p input choices capacity a (h, within) =
    record { plain = h.plain; is_erased = h.is_erased; output = h.output; finals = h.finals }

pub on_threads_shows : (p : Program) (input : List ℕ) (capacity : ℕ) (a : Answer) → on_threads input capacity p a →
    Shows p input a
on_threads_shows p input capacity a (h, within) =
    record { plain = h.plain; is_erased = h.is_erased; output = h.output; finals = h.finals }

abbrev arrays_of : Program → ℕ
arrays_of q = length (lengths_of q)

-- what the program of the text without directives does is what the answer has
pub plain_answer : (p q : Program) (input : List ℕ) (a : Answer) → Shows p input a → IsErased p q → IsPlainAnswer p q input a
plain_answer p q input a h e =
    go (erased q input) refl (subst (λ (o : Option Plain). SameRun (arrays_of q) o (erased q input)) h.is_erased (e.runs input))
  where
    go : (o : Option Plain) → erased q input ≡ o → SameRun (arrays_of q) (Some h.plain) (erased q input) → IsPlainAnswer p q input a
    go None f same = absurd (subst (λ (o : Option Plain). SameRun (arrays_of q) (Some h.plain) o) f same)
    go (Some t) f same =
        let end : SameEnd (arrays_of q) h.plain t =
        subst (λ (o : Option Plain). SameRun (arrays_of q) (Some h.plain) o) f same in
        record {
          no_directive = e.plain;
          boxes = e.boxes;
          lengths = e.lengths;
          plain = t;
          is_erased = f;
          output = h.output ∙ ap (λ (xs : List ℕ). output_of xs) end.printed;
          finals = ap (first_arrays (arrays_of q)) h.finals
              ∙ same_first p (arrays_of q) h.plain.memory t.memory end.memory;
        }

source_answer : ErasedTextRuns → (is : Answers) (bytes input : List ℕ) → ((p : Program) (a : Answer) → is p a → Shows p input a) →
    (p q : Program) → q ≡ p → Spells bytes p → length (plan p).items ≤ most_items → (r : Result Answer SourceFault) →
    IfOk r (IsAcceptedAnswer is q) → IfOk r (IsSourceAnswer is bytes input)
source_answer law is bytes input shows p q e s few (Err f) h = tt
source_answer law is bytes input shows p q e s few (Ok a) h =
    let here : IsAcceptedAnswer is p a = subst (λ (r : Program). IsAcceptedAnswer is r a) e h in
    record {
      program = p;
      spelled = s;
      few = few;
      answer = here;
      without = λ r spelled. plain_answer p r input a (shows p a here.answer) (law bytes p r s spelled);
    }

pub answer_by_choices : ErasedTextRuns → (bytes input choices : List ℕ) (capacity : ℕ) (p q : Program) → q ≡ p →
    Spells bytes p → length (plan p).items ≤ most_items → (r : Result Answer SourceFault) →
    IfOk r (IsAcceptedAnswer (by_choices input choices capacity) q) →
    IfOk r (IsSourceAnswer (by_choices input choices capacity) bytes input)
answer_by_choices law bytes input choices capacity p q e s few r h =
    source_answer law (by_choices input choices capacity) bytes input
    (λ x a k. by_choices_shows x input choices capacity a k) p q e s few r h

pub answer_on_threads : ErasedTextRuns → (bytes input : List ℕ) (capacity : ℕ) (p q : Program) → q ≡ p → Spells bytes p →
    length (plan p).items ≤ most_items → (r : Result Answer SourceFault) →
    IfOk r (IsAcceptedAnswer (on_threads input capacity) q) → IfOk r (IsSourceAnswer (on_threads input capacity) bytes input)
answer_on_threads law bytes input capacity p q e s few r h =
    source_answer law (on_threads input capacity) bytes input (λ x a k. on_threads_shows x input capacity a k) p q e s few r h

pub source_fault : (is : Faults) (bytes : List ℕ) (p q : Program) → q ≡ p → Spells bytes p →
    length (plan p).items ≤ most_items → (r : Result Answer SourceFault) → IfErr r (IsProgramFault is q) →
    IfErr r (IsSourceFault is bytes)
source_fault is bytes p q e s few (Ok a) h = tt
source_fault is bytes p q e s few (Err (Check f)) h =
    record { program = p; spelled = s; few = few; fault = subst (λ (r : Program). IsCheckFault (plan r) f) e h }
source_fault is bytes p q e s few (Err (Run f)) h =
    record { program = p; spelled = s; few = few; stopped = subst (λ (r : Program). IsRunStopped is r f) e h }
source_fault is bytes p q e s few (Err (Read f)) h = absurd h
source_fault is bytes p q e s few (Err (Outline f)) h = absurd h

-- two clauses on an answer
pub both : (P Q : Answer → Type 0) (r : Result Answer RunFault) → IfOk r P → IfOk r Q → IfOk r (λ a. P a × Q a)
both P Q (Ok a) p q = (p, q)
both P Q (Err f) p q = tt

pub accepted_too : (p q : Program) → q ≡ p → IsAccepted (plan q) → IsAccepted (plan p)
accepted_too p q e h = subst (λ (r : Program). IsAccepted (plan r)) e h
