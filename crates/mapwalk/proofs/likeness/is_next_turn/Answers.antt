use Rattle.std.proofs.Common.{◌≡◌, ◌+◌, ◌-◌, sym, subst, arith, ⊎_elim}
use Rattle.std.proofs.lemmas.Bool.{cases_eq}
use Rattle.mapwalk.specs.Found.{all_found}
use Rattle.mapwalk.specs.Heads.{AreAlikeAt}
use Rattle.mapwalk.proofs.likeness.is_next_turn.Goals as goal

pub each-preserved : goal.each-preserved
each-preserved c k lt =
    ⊎_elim
    (λ (same : k ≡ c.each.j).
    subst (λ n. AreAlikeAt c.args.items.now (all_found c.args.found.now) (c.args.number - c.args.period + n) (c.args.number + n))
    (sym same) (c.are_alike.ensures c.if-not-are_alike.false))
    (λ (other : k ≡ c.each.j → ⊥). c.each.invariant k (omega (arith, lt, other)))
    (cases_eq k c.each.j)
