use Rattle.std.proofs.Common.{◌≡◌, ◌≤◌, ◌∙◌, length, sym, subst, arith}
use Rattle.base.specs.Items.{plan}
use Rattle.base.specs.Limits.{most_items}
use Rattle.outline.specs.Regions.{entries_of}
use Rattle.std.proofs.lemmas.List.{length-map}
use Rattle.order.specs.Bare.{bare, plan_of}
use Rattle.order.specs.Clashes.{IsFirstFound}
use Rattle.order.specs.Rows.{IsOrder}
use Rattle.order.proofs.Alike.{Alike, items_alike, order_alike}
use Rattle.order.proofs.Faults.{no_clash, first_clash}
use Rattle.order.proofs.Order.build.Goals as goal

pub returns-in-Some-clause-fault : goal.returns-in-Some-clause-fault
returns-in-Some-clause-fault c =
    let p = plan c.args.outlined.now in
    let its = c.items-items.result.now in
    first_clash its p c.in-Some.fault (items_alike (entries_of c.args.outlined.now) its p c.items-items.ensures.shown) c.requires
    (subst (λ o. IsFirstFound its o) c.in-Some.is c.in_ok-fault.ensures)

pub invariant_of-result : goal.invariant_of-result
invariant_of-result c =
    let p = plan c.args.outlined.now in
    let its = c.items-items.result.now in
    let alike : Alike (plan_of its) p = items_alike (entries_of c.args.outlined.now) its p c.items-items.ensures.shown in
    subst (λ q. IsOrder (plan q) c.in_ok-rows_of.field-0.items) (sym c.program.ensures)
    (order_alike (plan_of its) p c.in_ok-rows_of.field-0.items alike (record {
      many = c.in_ok-rows_of.ensures.all ∙ sym (length-map its bare);
      most = let few : length its ≤ most_items = c.items-items.ensures.few in
          let all : length c.in_ok-rows_of.field-0.items ≡ length its = c.in_ok-rows_of.ensures.all in omega arith;
      are = c.in_ok-rows_of.ensures.rows;
    }))

pub returns-clause-fine : goal.returns-clause-fine
returns-clause-fine c =
    let p = plan c.args.outlined.now in
    let its = c.items-items.result.now in
    no_clash its p (items_alike (entries_of c.args.outlined.now) its p c.items-items.ensures.shown) c.requires
    (subst (λ o. IsFirstFound its o) c.in_default.is c.in_ok-fault.ensures)
