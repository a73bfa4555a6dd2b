-- What a step has printed, by which machine it ran.
use Rattle.std.proofs.Common.{◌≡◌, ap, ℕ, Bool, true, false, not, List, Option, Some, sym, subst, true≢false}
use Rattle.std.specs.Prelude.{Result, Ok, Err, IfOk}
use Rattle.base.specs.declared.tree.Program.{Program}
use Rattle.base.specs.declared.item.Answer.{Answer}
use Rattle.numbers.specs.Numbers.{choices_of}
use Rattle.driver.specs.declared.running.Next.TheVariants.{Choices, Workers}
use Rattle.driver.specs.declared.running.Way.{Way}
use Rattle.driver.specs.declared.running.Way.TheVariants.{Checked, Fine}
use Rattle.driver.specs.Printed.{AreChoices, IsPrinted, IsReadAnswer, IsStepped, OfSource, accepted_by, answers_of, by_actions, by_list, stepped}
use Rattle.driver.specs.Refused.{is_checked}
use Rattle.driver.specs.Stepping.{IsStepWay}

-- what is answered by a way is answered by the same one, of the same program
pub same_answer : {E : Type 0} (r : Result Answer E) (v w : Way) → v ≡ w → (capacity : ℕ) (known : Option (List ℕ)) (p q : Program) → q ≡ p
    → IfOk r (IsReadAnswer (answers_of w capacity) known q) → IfOk r (IsReadAnswer (answers_of v capacity) known p)
same_answer r v w way capacity known p q e h =
    subst (λ (u : Way). IfOk r (IsReadAnswer (answers_of u capacity) known p)) (sym way)
    (subst (λ (u : Program). IfOk r (IsReadAnswer (answers_of w capacity) known u)) e h)

-- the machine that is asked for needs an accepted program or not
pub checked_way : (fine : Bool) (choices turns : List ℕ) (way : Way) → IsStepWay fine choices turns way → is_checked way ≡ not fine
checked_way fine choices turns (Checked (Choices list)) is = ap not (sym is.0)
checked_way fine choices turns (Checked (Workers workers)) is = absurd is
checked_way fine choices turns (Fine list order) is = ap not (sym is.0)

-- what that way has printed is printed by the machine that is asked for
pub printed_way : (fine maps : Bool) (choices turns : List ℕ) (capacity : ℕ) (way : Way) (bytes : List ℕ) (known old new : Option (List ℕ))
    → IsStepWay fine choices turns way → IsPrinted (answers_of way capacity) true maps false bytes known old new
    → IsPrinted (stepped fine choices turns capacity) true maps false bytes known old new
printed_way true maps choices turns capacity (Fine list order) bytes known old new is h =
    subst (λ cs. IsPrinted (by_actions cs turns capacity) true maps false bytes known old new) is.1
    (subst (λ ts. IsPrinted (by_actions list.now ts capacity) true maps false bytes known old new) is.2 h)
printed_way false maps choices turns capacity (Fine list order) bytes known old new is h = absurd (true≢false (sym is.0))
printed_way true maps choices turns capacity (Checked (Choices list)) bytes known old new is h = absurd (true≢false is.0)
printed_way false maps choices turns capacity (Checked (Choices list)) bytes known old new is h =
    subst (λ cs. IsPrinted (accepted_by (by_list cs capacity)) true maps false bytes known old new) is.1 h
printed_way true maps choices turns capacity (Checked (Workers workers)) bytes known old new is h = absurd is
printed_way false maps choices turns capacity (Checked (Workers workers)) bytes known old new is h = absurd is

-- a step is done where its way has printed
pub done_way : {E : Type 0} (r : Result ℕ E) (source : Option (List ℕ)) (fine maps : Bool) (text runs choices order turns : List ℕ) (capacity : ℕ) (way : Way) (known old new : Option (List ℕ))
    → AreChoices text runs choices → choices_of order ≡ Some turns → IsStepWay fine choices turns way
    → IfOk r (λ s. s ≡ 0 → OfSource source (λ bytes. IsPrinted (answers_of way capacity) true maps false bytes known old new))
    → IfOk r (λ s. s ≡ 0 → OfSource source (λ bytes. IsStepped fine maps text runs order capacity bytes known old new))
done_way (Ok s) source fine maps text runs choices order turns capacity way known old new spelled ordered is h = λ zero.
    let found = h zero in
    record {
      bytes = found.bytes;
      are = found.are;
      holds = record {
        choices = choices;
        are_choices = spelled;
        turns = turns;
        are_turns = ordered;
        printed = printed_way fine maps choices turns capacity way found.bytes known old new is found.holds;
      };
    }
done_way (Err e) source fine maps text runs choices order turns capacity way known old new spelled ordered is h = tt
