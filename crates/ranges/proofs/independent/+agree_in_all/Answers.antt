use Rattle.std.proofs.Common.{arith, subst, sym, List, ℕ, ◌+◌, ◌-◌}
use Rattle.ranges.specs.Strides.{NestAt}
use Rattle.ranges.proofs.NestLists.{inner_at}
use Rattle.ranges.proofs.independent.+agree_in_all.Goals as goal

pub agree_in_all-requires : goal.agree_in_all-requires
agree_in_all-requires t c =
    let some = c.in-Some.ensures.some in
    let bound = c.decreases in (
      omega (arith, some, bound),
      subst (λ (xs : List ℕ). NestAt (c.args.depth - 1) c.in-Some.outer.body.now (c.args.level + 1) xs) (sym c.in_ok-are_apart.ensures.lows)
          (inner_at c.args.depth c.args.nest.now c.in-Some.outer.bounds c.in-Some.outer.body.now c.args.level c.args.span.now.lows.items
          c.in-Some.ensures.found c.requires),
    )
