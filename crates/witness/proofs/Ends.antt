-- What a run ends with.
use Rattle.std.proofs.Common.{◌≡◌, ℕ, List, subst}
use Rattle.base.specs.declared.item.Answer.{Answer}
use Rattle.witness.specs.declared.trial.Ended.{Ended}
use Rattle.witness.specs.declared.trial.Ended.TheVariants.{Done}
use Rattle.witness.specs.declared.trial.Run.{Run as RunOutcome}
use Rattle.witness.specs.declared.trial.Run.TheVariants.{Ended as EndedSo}
use Rattle.witness.specs.declared.trial.Trials.{Trials}
use Rattle.witness.specs.Witnesses.{IsEnd, IsRun}

pub done_end : (t : Trials) (choices turns list order : List ℕ) (r : RunOutcome) (e : Ended) (a : Answer) → list ≡ choices → order ≡ turns
    → r ≡ EndedSo e → e ≡ Done a → IsRun t list order r → IsEnd t.source.now t.input.now choices turns t.capacity (Done a)
done_end t choices turns list order r e a same like is done h =
    let ended : IsRun t list order (EndedSo e) = subst (λ (x : RunOutcome). IsRun t list order x) is h in
    let last : IsEnd t.source.now t.input.now list order t.capacity (Done a) =
    subst (λ (x : Ended). IsEnd t.source.now t.input.now list order t.capacity x) done ended in
    let here : IsEnd t.source.now t.input.now choices order t.capacity (Done a) =
    subst (λ (xs : List ℕ). IsEnd t.source.now t.input.now xs order t.capacity (Done a)) same last in
    subst (λ (xs : List ℕ). IsEnd t.source.now t.input.now choices xs t.capacity (Done a)) like here
