use Rattle.std.proofs.Common.{arith, ◌∙◌, false}
use Rattle.std.proofs.lemmas.Result.{err_from_is_err_and}
use Rattle.c_statements.proofs.Sources.{go_end, read_ended}
use Rattle.c_statements.proofs.right_side.ended_source.Goals as goal

pub returns-in_err-source-clause-read : goal.returns-in_err-source-clause-read
returns-in_err-source-clause-read c = λ s.
    let p = err_from_is_err_and c.from_residual.result c.from_residual.ensures.1 in
    rw (p.1, p.2) (c.in_err-source.ensures.read false s)

pub returns-clause-read : goal.returns-clause-read
returns-clause-read c = λ s.
    c.in_ok-source.ensures.read false s
    ∙ go_end c.args.scope.now s c.source.new.tokens c.take.new.self c.in_ok-source.ensures.stands c.take.ensures

pub returns-clause-tree : goal.returns-clause-tree
returns-clause-tree c = grind (arith, read_ended)
