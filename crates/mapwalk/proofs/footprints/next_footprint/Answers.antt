use Rattle.std.proofs.Common.{◌<◌, ℕ, None, get_or, length, sym, ap, ◌∙◌, subst, arith}
use Rattle.base.specs.Items.{plan}
use Rattle.outline.specs.Regions.{entries_of}
use Rattle.mapwalk.specs.Found.{all_found}
use Rattle.mapwalk.proofs.Copies.{shared_number, repeat_at, shared_below, shared_fine, shared_found}
use Rattle.mapwalk.proofs.OneRegion.{shown_at}
use Rattle.outline.proofs.Builds.{as_many}
use Rattle.std.proofs.lemmas.Grind.{common_steps}
use Rattle.mapwalk.proofs.footprints.next_footprint.Goals as goal

pub returns-in-Some-clause-inside : goal.returns-in-Some-clause-inside
returns-in-Some-clause-inside c earlier is =
    let p = plan c.args.outlined.now in
    let found = all_found c.args.found.now in
    subst (λ k. k < length found) (shared_number c.in-Some.earlier earlier is)
    (shared_below p (length found) c.in-Some.earlier found c.requires.before
    (repeat_at p c.args.repeats.now (length found) c.in-Some.earlier c.requires.repeats c.requires.inside
    (ap (λ (n : ℕ). get_or c.args.repeats.now n None) (sym c.len-number.ensures) ∙ c.in-Some.is)))

pub returns-in-Some-clause-found : goal.returns-in-Some-clause-found
returns-in-Some-clause-found c w there =
    let p = plan c.args.outlined.now in
    let found = all_found c.args.found.now in
    shared_found p (length found) c.in-Some.earlier w found c.requires.before
    (repeat_at p c.args.repeats.now (length found) c.in-Some.earlier c.requires.repeats c.requires.inside
    (ap (λ (n : ℕ). get_or c.args.repeats.now n None) (sym c.len-number.ensures) ∙ c.in-Some.is))
    c.requires.inside there

pub returns-in-Some-clause-fine : goal.returns-in-Some-clause-fine
returns-in-Some-clause-fine c w there =
    let p = plan c.args.outlined.now in
    let found = all_found c.args.found.now in
    shared_fine p (length found) c.in-Some.earlier w found c.requires.before
    (repeat_at p c.args.repeats.now (length found) c.in-Some.earlier c.requires.repeats c.requires.inside
    (ap (λ (n : ℕ). get_or c.args.repeats.now n None) (sym c.len-number.ensures) ∙ c.in-Some.is))
    c.requires.inside there

pub returns-in-Ok-clause-found : goal.returns-in-Ok-clause-found
returns-in-Ok-clause-found c w there =
    let p = c.args.outlined.now in
    let items = c.items.result.now in
    let many = as_many (entries_of p) items (plan p).items c.items.ensures.shown in
    let inside : length (all_found c.args.found.now) < length items = omega (arith, many, c.requires.inside) in
    c.in-Ok.ensures.found w
    (shown_at (entries_of p) items (plan p).items (length (all_found c.args.found.now)) c.index-items-number.result w
    c.items.ensures.shown inside
    (c.index-items-number.is ∙ ap (λ (n : ℕ). get_or items n c.index-items-number.result) c.len-number.ensures) there)

pub returns-in-Ok-clause-fine : goal.returns-in-Ok-clause-fine
returns-in-Ok-clause-fine c w there =
    let p = c.args.outlined.now in
    let items = c.items.result.now in
    let many = as_many (entries_of p) items (plan p).items c.items.ensures.shown in
    let inside : length (all_found c.args.found.now) < length items = omega (arith, many, c.requires.inside) in
    c.in-Ok.ensures.fine w
    (shown_at (entries_of p) items (plan p).items (length (all_found c.args.found.now)) c.index-items-number.result w
    c.items.ensures.shown inside
    (c.index-items-number.is ∙ ap (λ (n : ℕ). get_or items n c.index-items-number.result) c.len-number.ensures) there)

pub returns-in-Err-clause-fault : goal.returns-in-Err-clause-fault
returns-in-Err-clause-fault c w there =
    let p = c.args.outlined.now in
    let items = c.items.result.now in
    let many = as_many (entries_of p) items (plan p).items c.items.ensures.shown in
    let inside : length (all_found c.args.found.now) < length items = omega (arith, many, c.requires.inside) in
    c.in-Err.ensures.fault w
    (shown_at (entries_of p) items (plan p).items (length (all_found c.args.found.now)) c.index-items-number.result w
    c.items.ensures.shown inside
    (c.index-items-number.is ∙ ap (λ (n : ℕ). get_or items n c.index-items-number.result) c.len-number.ensures) there)

pub bounds-items-number : goal.bounds-items-number
bounds-items-number c = grind (arith, common_steps)
