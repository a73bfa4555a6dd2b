use Rattle.std.proofs.Common.{◌≡◌, ◌<◌, length, arith}
use Rattle.std.proofs.lemmas.List.{length-map}
use Rattle.order.specs.Bare.{bare, plan_of}
use Rattle.order.specs.Rows.{IsRow}
use Rattle.order.proofs.Parts.{row_found, waits_kept}
use Rattle.order.proofs.Steps.{all_of_row}
use Rattle.order.proofs.rows.deferred_row.Goals as goal

pub returns : goal.returns
returns c =
    let its = c.args.items.now in
    let p = plan_of its in
    let i = c.args.item in
    let first = c.in_ok-row.row in
    let part = c.add_matches.new.row in
    let many : length p.items ≡ length its = length-map its bare in
    let here : i < length its = c.requires.inside in
    all_of_row c.lowered.result _ _ _ (IsRow p i) c.lowered.ensures.same c.lowered.ensures.members c.lowered.ensures.least
    (λ r same members least. row_found p i part r (omega (arith, many, here)) c.requires.deferred c.in_ok-add_matches.ensures.part
    (waits_kept p i first part c.in_ok-add_matches.ensures.kept c.in_ok-row.ensures.waits) c.in_ok-add_matches.ensures.matches
    same members least)
