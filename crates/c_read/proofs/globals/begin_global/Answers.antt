use Rattle.std.proofs.Common.{◌∷◌}
use Rattle.std.proofs.lemmas.Result.{err_from_is_err_and}
use Rattle.c_grammar.specs.Program.{Globals}
use Rattle.c_expressions.proofs.Outcomes.{failed_from}
use Rattle.c_read.proofs.Declared.{go_word}
use Rattle.c_read.proofs.globals.begin_global.Goals as goal

pub returns-in_err-name-clause-read : goal.returns-in_err-name-clause-read
returns-in_err-name-clause-read c = λ s.
    let p = err_from_is_err_and c.from_residual.result c.from_residual.ensures.1 in
    rw (p.1, p.2) (failed_from _ _ _ (go_word c.args.scope.now s c.args.tokens.now c.take.new.self c.requires c.take.ensures)
    (c.in_err-name.ensures.read (Globals ∷ s)))
