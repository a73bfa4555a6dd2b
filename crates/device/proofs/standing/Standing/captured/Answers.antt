use Rattle.std.proofs.Common.{◌≡◌, ◌∙◌, Some, sym, ap, subst}
use Rattle.std.specs.Prelude.{slice_get}
use Rattle.std.proofs.lemmas.Option.{slice_get-get_or}
use Rattle.base.specs.Machine.{captured_by}
use Rattle.device.specs.declared.standing.Held.{Held}
use Rattle.device.specs.Standing.{IsCaptured}
use Rattle.device.proofs.Framings.{captures_kept}
use Rattle.device.proofs.standing.Standing.captured.Goals as goal

pub returns-in-Captured : goal.returns-in-Captured
returns-in-Captured c p s w at is d waits =
    let at_i : slice_get c.args.self.now.held.items c.args.item ≡ Some c.index.result.now =
    slice_get-get_or c.args.self.now.held.items c.args.item c.index.result.now c.requires
    ∙ ap (λ (x : Held). Some x) (sym c.index.ensures) in
    let kept =
    subst (IsCaptured (captured_by (s.condition c.args.item) s.scalars)) (at_i ∙ ap (λ (x : Held). Some x) c.in-Captured.is)
    (captures_kept c.args.self.now c.args.item p s w at is (d ∙ c.if-not-deferred.false) waits) in
    sym kept

pub returns-in-Nothing : goal.returns-in-Nothing
returns-in-Nothing c p s w at is d waits =
    let at_i : slice_get c.args.self.now.held.items c.args.item ≡ Some c.index.result.now =
    slice_get-get_or c.args.self.now.held.items c.args.item c.index.result.now c.requires
    ∙ ap (λ (x : Held). Some x) (sym c.index.ensures) in
    let kept =
    subst (IsCaptured (captured_by (s.condition c.args.item) s.scalars)) (at_i ∙ ap (λ (x : Held). Some x) c.in-Nothing.is)
    (captures_kept c.args.self.now c.args.item p s w at is (d ∙ c.if-not-deferred.false) waits) in
    absurd kept

pub returns-in-Issued : goal.returns-in-Issued
returns-in-Issued c p s w at is d waits =
    let at_i : slice_get c.args.self.now.held.items c.args.item ≡ Some c.index.result.now =
    slice_get-get_or c.args.self.now.held.items c.args.item c.index.result.now c.requires
    ∙ ap (λ (x : Held). Some x) (sym c.index.ensures) in
    let kept =
    subst (IsCaptured (captured_by (s.condition c.args.item) s.scalars)) (at_i ∙ ap (λ (x : Held). Some x) c.in-Issued.is)
    (captures_kept c.args.self.now c.args.item p s w at is (d ∙ c.if-not-deferred.false) waits) in
    absurd kept
