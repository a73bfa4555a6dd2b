use Rattle.std.proofs.Common.{◌≡◌, ℕ, ◌+◌, List, Some, Vec, Global, length, sym, ap, ◌∙◌, subst, arith}
use Rattle.std.specs.Prelude.{slice_get}
use Rattle.base.specs.declared.item.Section.{Section}
use Rattle.base.specs.Items.{plan}
use Rattle.outline.specs.Regions.{entries_of}
use Rattle.mapwalk.proofs.Copies.{item_at}
use Rattle.outline.proofs.Builds.{as_many}
use Rattle.mapcheck.specs.Reaches.{AreFirstReaches}
use Rattle.mapcheck.proofs.Reached.{one_reach}
use Rattle.std.proofs.lemmas.Grind.{common_steps}
use Rattle.mapcheck.proofs.reaches.reaches.Goals as goal

pub items-preserved : goal.items-preserved
items-preserved c =
    let p = c.args.outlined.now in
    let n = c.items.counter in
    let many = as_many (entries_of p) c.items-end.result.now (plan p).items c.items-end.ensures.shown in
    let at = item_at (plan p) n (omega (arith, many, c.items-test.true)) in
    let last : length c.deref.result.now ≡ n = ap (λ (xs : List (Vec Section Global)). length xs) c.deref.ensures.value
    ∙ c.items.invariant.count in
    subst (λ (xs : List (Vec Section Global)). AreFirstReaches (plan p) (n + 1) xs)
    (sym {A = List (Vec Section Global)} c.in_ok-push.ensures.items)
    (one_reach (plan p) n c.items.all.items at.work c.in_ok-next_reach.field-0 c.items.invariant at.there
    (c.in_ok-next_reach.ensures at.work
    (subst (λ (k : ℕ). slice_get (plan p).items k ≡ Some at.work) (sym last) at.there)))

pub next_reach-requires-clause-inside : goal.next_reach-requires-clause-inside
next_reach-requires-clause-inside c = grind (arith, common_steps)

pub returns : goal.returns
returns c = grind (arith, common_steps)
