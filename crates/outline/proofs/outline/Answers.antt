use Rattle.std.proofs.Common.{◌≡◌, ◌-◌, ◌^◌, min, refl, ap, ◌∙◌, arith}
use Rattle.outline.specs.Counts.{list_count}
use Rattle.outline.proofs.Lengths.{plan_length}
use Rattle.outline.proofs.outline.Goals as goal

pub returns-then-count_all-gt-MOST_ITEMS-clause-many : goal.returns-then-count_all-gt-MOST_ITEMS-clause-many
returns-then-count_all-gt-MOST_ITEMS-clause-many c =
    let all = plan_length c.args.program.now in
    let counted : c.count_all.result ≡ min (list_count c.args.program.now.body.items) (2 ^ 64 - 1) =
    c.count_all.ensures ∙ ap (λ ps. min (list_count ps) (2 ^ 64 - 1)) c.deref.ensures.value in
    (λ _. omega (arith, all, counted), λ _. refl)

pub build-requires : goal.build-requires
build-requires c =
    let all = plan_length c.args.program.now in
    let counted : c.count_all.result ≡ min (list_count c.args.program.now.body.items) (2 ^ 64 - 1) =
    c.count_all.ensures ∙ ap (λ ps. min (list_count ps) (2 ^ 64 - 1)) c.deref.ensures.value in
    omega (arith, all, counted)

pub returns-in-Err-clause-many : goal.returns-in-Err-clause-many
returns-in-Err-clause-many c =
    let all = plan_length c.args.program.now in
    let counted : c.count_all.result ≡ min (list_count c.args.program.now.body.items) (2 ^ 64 - 1) =
    c.count_all.ensures ∙ ap (λ ps. min (list_count ps) (2 ^ 64 - 1)) c.deref.ensures.value in
    (λ e. absurd cc, λ h. absurd (omega (arith, all, counted, h)))
