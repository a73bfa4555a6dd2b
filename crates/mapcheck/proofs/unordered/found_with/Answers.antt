use Rattle.std.proofs.Common.{sym, ◌+◌, subst, Option, Some}
use Rattle.base.specs.declared.item.Cell.{Cell}
use Rattle.base.specs.declared.fault.Refusal.{Refusal}
use Rattle.base.specs.Items.{plan}
use Rattle.mapcheck.specs.Unordered.{IsFoundBelow, IsLeastUnordered}
use Rattle.mapcheck.proofs.Firsts.{none_found, one_found}
use Rattle.mapcheck.proofs.unordered.found_with.Goals as goal

pub returns-in-None : goal.returns-in-None
returns-in-None c =
    let p = plan c.args.order.now in
    none_found p c.args.other c.args.item c.args.found c.requires.found
    (subst (λ (o : Option Cell). IsLeastUnordered p c.args.other c.args.item o) c.in-None.is c.least_unordered.ensures)

pub returns-in-Some : goal.returns-in-Some
returns-in-Some c =
    let p = plan c.args.order.now in
    subst (λ (r : Refusal). IsFoundBelow p (c.args.other + 1) c.args.item (Some r)) (sym c.earlier.ensures)
    (one_found p c.args.other c.args.item c.args.found c.in-Some.cell c.requires.found
    (subst (λ (o : Option Cell). IsLeastUnordered p c.args.other c.args.item o) c.in-Some.is c.least_unordered.ensures))
