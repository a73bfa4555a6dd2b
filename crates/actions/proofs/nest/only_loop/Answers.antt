use Rattle.std.proofs.Common.{◌≡◌, List, [], ◌∷◌, length, ap, sym, arith}
use Rattle.std.specs.Prelude.{slice_index_or}
use Rattle.base.specs.declared.tree.Stmt.{Stmt}
use Rattle.actions.proofs.SingleLoops.{single_loop}
use Rattle.actions.proofs.nest.only_loop.Goals as goal

single : (xs : List Stmt) (s : Stmt) → length xs ≡ 1 → s ≡ slice_index_or xs 0 s → xs ≡ s ∷ []
single [] s one is = absurd (omega (arith, one))
single (x ∷ []) s one is = ap (λ y. y ∷ []) (sym is)
single (x ∷ y ∷ rest) s one is = absurd (omega (arith, one))

pub returns-in-Loop : goal.returns-in-Loop
returns-in-Loop c =
    single_loop c.args.body.now c.only-item.result c.in-Loop.bounds c.in-Loop.inner c.deref.result.now
    (single c.args.body.now c.only-item.result (omega (arith, c.in-len1.len_at_least, c.in-len1.len_below)) c.only-item.is)
    c.in-Loop.is c.deref.ensures.value
