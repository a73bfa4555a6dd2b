use Rattle.std.proofs.Common.{◌≡◌, ℕ, ◌≤◌, ◌+◌, List, Option, Some, length, sym, subst, arith}
use Rattle.std.specs.Prelude.{slice_get}
use Rattle.base.specs.declared.fault.CheckFault.{CheckFault}
use Rattle.base.specs.Items.{plan}
use Rattle.outline.specs.Regions.{entries_of}
use Rattle.ranges.specs.declared.cells.Footprint.{Footprint}
use Rattle.mapwalk.specs.Footprints.{AreFirstFootprints}
use Rattle.mapwalk.specs.Found.{all_found, told}
use Rattle.mapwalk.proofs.Copies.{item_at}
use Rattle.mapwalk.proofs.Prints.{one_print}
use Rattle.mapwalk.proofs.Touched.{no_region_fault}
use Rattle.outline.proofs.Builds.{as_many}
use Rattle.mapcheck.specs.Passes.{IsCheckFault}
use Rattle.mapcheck.proofs.FirstFaults.{first_fault, none_at_all, none_more}
use Rattle.std.proofs.lemmas.Grind.{common_steps}
use Rattle.mapcheck.proofs.passes.footprints_of.Goals as goal

pub returns-in-Err-clause-fault : goal.returns-in-Err-clause-fault
returns-in-Err-clause-fault c =
    let p = c.args.outlined.now in
    let n = c.items.number in
    let many = as_many (entries_of p) c.items-number-end.result.now (plan p).items c.items-number-end.ensures.shown in
    let at = item_at (plan p) n (omega (arith, many, c.items-test.true)) in
    let last : length (all_found c.items.found) ≡ n = c.items.invariant.found.count in
    subst (λ (x : CheckFault). IsCheckFault (plan p) x) (sym c.range_fault.ensures)
    (first_fault (plan p) n at.work c.in-Err.fault c.items.invariant.none at.there
    (c.in-Err.ensures.fault at.work (subst (λ (k : ℕ). slice_get (plan p).items k ≡ Some at.work) (sym last) at.there)))

pub items-preserved : goal.items-preserved
items-preserved c =
    let p = c.args.outlined.now in
    let n = c.items.number in
    let many = as_many (entries_of p) c.items-number-end.result.now (plan p).items c.items-number-end.ensures.shown in
    let at = item_at (plan p) n (omega (arith, many, c.items-test.true)) in
    let last : length (all_found c.items.found) ≡ n = c.items.invariant.found.count in
    let there = subst (λ (k : ℕ). slice_get (plan p).items k ≡ Some at.work) (sym last) at.there in
    record {
      none = none_more (plan p) n at.work c.items.invariant.none at.there (c.in-Ok.ensures.fine at.work there);
      found = subst (λ (xs : List (Option Footprint)). AreFirstFootprints (plan p) (n + 1) xs)
          (sym {A = List (Option Footprint)} c.in-Ok-push.ensures.pushed)
          (one_print (plan p) n (all_found c.items.found) at.work (told (all_found c.items.found) c.in-Ok.next) c.items.invariant.found at.there
          (c.in-Ok.ensures.found at.work there)
          (no_region_fault (plan p).lengths at.work (c.in-Ok.ensures.fine at.work there)));
    }

pub returns-clause-fine : goal.returns-clause-fine
returns-clause-fine c =
    let p = c.args.outlined.now in
    let same = as_many (entries_of p) c.items-number-end.result.now (plan p).items c.items-number-end.ensures.shown in
    let last : length (plan p).items ≤ c.items.number = omega (arith, same, c.items-test.false) in
    none_at_all (plan p) c.items.number c.items.invariant.none last

pub item_footprint-requires-clause-inside : goal.item_footprint-requires-clause-inside
item_footprint-requires-clause-inside c = grind (arith, common_steps)

pub returns-clause-found : goal.returns-clause-found
returns-clause-found c = grind (arith, common_steps)
