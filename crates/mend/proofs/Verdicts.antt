-- What the verdict on a program says of its text.
use Rattle.std.proofs.Common.{◌≡◌, ℕ, ◌≤◌, List, length, subst}
use Rattle.std.specs.Prelude.{Result, Ok, Err, IfOk}
use Rattle.base.specs.declared.tree.Program.{Program}
use Rattle.base.specs.Accepted.{IsAccepted}
use Rattle.base.specs.Items.{plan}
use Rattle.base.specs.Limits.{most_items}
use Rattle.c_read.specs.Spells.{Spells}
use Rattle.mend.specs.Bare.{without_directives}
use Rattle.mend.specs.Mends.{IsPlanVerdict, IsVerdict, IsVerdictOn}
use Rattle.mend.specs.declared.judge.Verdict.{Verdict}
use Rattle.mend.specs.declared.judge.Verdict.TheVariants as verdict

verdict_on : (v : Verdict) (text : List ℕ) (p q : Program) → q ≡ p → Spells text p →
    length (plan p).items ≤ most_items → IsPlanVerdict q v → IsVerdictOn text v
verdict_on verdict.Accepted text p q e spelled few h =
    record { program = p; spelled = spelled; few = few; accepted = subst (λ (u : Program). IsAccepted (plan u)) e h }
verdict_on (verdict.Refused rank) text p q e spelled few h = tt
verdict_on verdict.Unfit text p q e spelled few h = tt

pub on_text : {E : Type 0} (r : Result Verdict E) (text : List ℕ) (p q : Program) → q ≡ p → Spells text p →
    length (plan p).items ≤ most_items → IfOk r (IsPlanVerdict q) → IfOk r (IsVerdictOn text)
on_text (Ok v) text p q e spelled few h = verdict_on v text p q e spelled few h
on_text (Err x) text p q e spelled few h = tt

same_verdict : (v : Verdict) (bare text : List ℕ) → without_directives text ≡ bare → IsVerdictOn text v →
    IsVerdict bare text v
same_verdict verdict.Accepted bare text e h = record { accepted = h; same = e }
same_verdict (verdict.Refused rank) bare text e h = tt
same_verdict verdict.Unfit bare text e h = tt

pub of_same : {E : Type 0} (r : Result Verdict E) (bare text : List ℕ) → without_directives text ≡ bare →
    IfOk r (IsVerdictOn text) → IfOk r (IsVerdict bare text)
of_same (Ok v) bare text e h = same_verdict v bare text e h
of_same (Err x) bare text e h = tt
