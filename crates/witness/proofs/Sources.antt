-- What is found of a source.
use Rattle.std.proofs.Common.{◌≡◌, ℕ, List, [], subst}
use Rattle.base.specs.declared.item.Answer.{Answer}
use Rattle.base.specs.declared.tree.Program.{Program}
use Rattle.base.specs.declared.fault.CheckFault.{CheckFault}
use Rattle.base.specs.declared.fault.CheckFault.TheVariants as check
use Rattle.base.specs.declared.fault.OrderFault.{OrderFault}
use Rattle.base.specs.declared.fault.Refusal.{Refusal}
use Rattle.base.specs.Items.{plan}
use Rattle.c_read.specs.Spells.{Spells}
use Rattle.erasure.specs.Erased.{erased_text}
use Rattle.mapcheck.specs.Passes.{IsCheckFault}
use Rattle.pipeline.specs.Fine.{IsFineSourceAnswer}
use Rattle.stepper.specs.Answering.{AreShown}
use Rattle.stepper.proofs.Shown.{shown_order, shown_refused}
use Rattle.witness.specs.declared.trial.Trials.{Trials}
use Rattle.witness.specs.declared.trial.Witness.{Witness}
use Rattle.witness.specs.Witnesses.{IsEnd, IsOther, IsToldOf, IsTrial, IsWitness}

-- a run that differs from that of the erased text, which is that without directives, with the action at which it fails
pub differing : (t : Trials) (bytes : List ℕ) (p : Program) (w : Witness) (erased : List ℕ) (plain : Answer) → t.source.now ≡ bytes
    → erased ≡ erased_text bytes → IsFineSourceAnswer erased t.input.now [] [] t.capacity plain → t.plain.now ≡ plain.out.items
    → Spells bytes p → IsTrial t w → IsToldOf p t w → IsWitness bytes t.input.now t.capacity w plain
differing t bytes p w erased plain b e a o s h told =
    record {
      end = subst (λ (text : List ℕ). IsEnd text t.input.now w.choices.items w.turns.items t.capacity w.end) b h.end;
      without = subst (λ (text : List ℕ). IsFineSourceAnswer text t.input.now [] [] t.capacity plain) e a;
      differs = subst (λ (out : List ℕ). IsOther out w.end) o h.differs;
      program = p;
      spelled = s;
      told = told;
    }

-- of a program that is refused without a fault of range no array is shown
pub order_shown : (p : Program) (f : CheckFault) (order : OrderFault) → f ≡ check.Order order → IsCheckFault (plan p) f → AreShown p []
order_shown p f order is h = shown_order p order (subst (IsCheckFault (plan p)) is h)

pub refused_shown : (p : Program) (f : CheckFault) (refusal : Refusal) → f ≡ check.Refused refusal → IsCheckFault (plan p) f → AreShown p []
refused_shown p f refusal is h = shown_refused p refusal (subst (IsCheckFault (plan p)) is h)
