use Rattle.std.proofs.Common.{◌≡◌, ℕ, ◌+◌, List, Option, length, sym, subst, arith}
use Rattle.std.specs.Prelude.{IfSome}
use Rattle.base.specs.Items.{plan}
use Rattle.mapwalk.specs.Repeats.{AreFirstRepeats, IsRepeat}
use Rattle.outline.specs.Regions.{entries_of}
use Rattle.mapwalk.proofs.OneRegion.{one_repeat}
use Rattle.outline.proofs.Builds.{as_many}
use Rattle.mapwalk.proofs.alike.repeats.Goals as goal

pub items-preserved : goal.items-preserved
items-preserved c =
    let p = c.args.outlined.now in
    subst (λ (xs : List (Option ℕ)). AreFirstRepeats (plan p) (c.items.number + 1) xs) (sym {A = List (Option ℕ)} c.in_ok-push.ensures.items)
    (one_repeat (plan p) c.items.number c.items.all.items c.if_alike.result c.items.invariant
    (λ k e. subst (λ (o : Option ℕ). IfSome o (IsRepeat (plan p) c.items.number)) e c.if_alike.ensures))

pub if_alike-requires : goal.if_alike-requires
if_alike-requires c =
    let p = c.args.outlined.now in
    let many = as_many (entries_of p) c.items-items.result.now (plan p).items c.items-items.ensures.shown in
    omega (arith, many, c.items-test.true)

pub bounds-items-number : goal.bounds-items-number
bounds-items-number c = c.items-test.true

pub returns : goal.returns
returns c =
    let p = c.args.outlined.now in
    let many = as_many (entries_of p) c.items-items.result.now (plan p).items c.items-items.ensures.shown in
    let last : c.items.number ≡ length (plan p).items = omega (arith, many, c.items-test.false, c.items.auto.number-end) in
    subst (λ n. AreFirstRepeats (plan p) n c.items.all.items) last c.items.invariant
