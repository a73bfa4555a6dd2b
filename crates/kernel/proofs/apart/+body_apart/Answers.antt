use Rattle.std.proofs.Common.{◌<◌, length, take, arith, subst}
use Rattle.base.specs.declared.tree.Stmt.{Stmt}
use Rattle.kernel.specs.Loops.{IsApartFor, loose_in}
use Rattle.kernel.specs.Offsets.{here_in}
use Rattle.kernel.proofs.Looseness.{both_apart}
use Rattle.kernel.proofs.apart.+body_apart.Goals as goal

pub returns : goal.returns
returns t c = λ e.
    let body = c.args.body.now in
    let some = c.args.some.now in
    let here = here_in c.args.body.now c.args.at.now in
    let inside : c.args.k < length some = omega (arith, c.if-k-some.false, c.requires) in
    both_apart body some here c.args.k c.index-some-k.result inside
    (subst (λ (s : Stmt). IsApartFor here body (loose_in body (take c.args.k some)) s) c.index-some-k.is
    (c.stmt_apart.ensures c.if-not-stmt_apart.false)) (c.body_apart.ensures e)
