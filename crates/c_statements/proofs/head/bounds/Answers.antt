use Rattle.std.proofs.Common.{◌∷◌, ◌∙◌}
use Rattle.std.proofs.lemmas.Result.{err_from_is_err_and}
use Rattle.c_tokens.specs.declared.kind.Sign.TheVariants as sign
use Rattle.c_grammar.specs.Terminal.{Name}
use Rattle.c_grammar.specs.Grammar.{Plain, Limit, Step, for}
use Rattle.c_grammar.specs.Rules.{Context, out}
use Rattle.c_grammar.specs.Program.{Stack, Want, WantNum, m}
use Rattle.c_expressions.specs.Scopes.{context_of}
use Rattle.c_expressions.proofs.Outcomes.{failed_from}
use Rattle.c_statements.specs.Loops.{waiting}
use Rattle.c_statements.proofs.head.bounds.Goals as goal

pub returns-in_err-step-clause-read : goal.returns-in_err-step-clause-read
returns-in_err-step-clause-read c = λ s.
    let p = err_from_is_err_and c.from_residual-in_err-step.result c.from_residual-in_err-step.ensures.1 in
    let x = c.args.name.now in
    let c0 : Context = waiting x (context_of c.args.scope.now 0 0) in
    let s3 : Stack = s in
    let s2 : Stack = Want (Name x) (for Plain) ∷ m sign.PlusEqual ∷ WantNum Step ∷ m sign.CloseParen ∷ s3 in
    let s1 : Stack = Want (Name x) (for Plain) ∷ m sign.Less ∷ WantNum Limit ∷ m sign.Semicolon ∷ s2 in
    rw (p.1, p.2) (failed_from _ _ _ (c.in_ok-first.ensures.read c0 s1 ∙ c.in_ok-end.ensures.read (out c0) s2)
    (c.in_err-step.ensures.read (out c0) s3))

pub returns-clause-read : goal.returns-clause-read
returns-clause-read c = λ s.
    let x = c.args.name.now in
    let c0 : Context = waiting x (context_of c.args.scope.now 0 0) in
    let s3 : Stack = s in
    let s2 : Stack = Want (Name x) (for Plain) ∷ m sign.PlusEqual ∷ WantNum Step ∷ m sign.CloseParen ∷ s3 in
    let s1 : Stack = Want (Name x) (for Plain) ∷ m sign.Less ∷ WantNum Limit ∷ m sign.Semicolon ∷ s2 in
    c.in_ok-first.ensures.read c0 s1 ∙ c.in_ok-end.ensures.read (out c0) s2 ∙ c.in_ok-step.ensures.read (out c0) s3
