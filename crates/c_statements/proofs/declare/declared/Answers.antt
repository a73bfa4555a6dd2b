use Rattle.std.proofs.Common.{◌∙◌, ◌∷◌, ap, subst, sym, true}
use Rattle.std.proofs.lemmas.Result.{err_from_is_err_and}
use Rattle.c_tokens.specs.declared.kind.Sign.TheVariants as sign
use Rattle.base.specs.declared.tree.Stmt.{Stmt}
use Rattle.c_grammar.specs.Program.{Stack, Value, m}
use Rattle.c_expressions.specs.declared.scope.Scope.{Scope}
use Rattle.c_expressions.specs.Cursor.{items}
use Rattle.c_expressions.specs.Scopes.{context_of, fresh_name}
use Rattle.c_expressions.proofs.Outcomes.{failed_from}
use Rattle.c_statements.specs.Simple.{ending, env_of, IsStmtRead}
use Rattle.c_statements.proofs.Declares.{go_declared}
use Rattle.c_statements.proofs.Locals.{read_declared, new_scope}
use Rattle.c_statements.proofs.declare.declared.Goals as goal

pub returns-in_err-value-clause-read : goal.returns-in_err-value-clause-read
returns-in_err-value-clause-read c = λ s.
    let p = err_from_is_err_and c.from_residual-in_err-value.result c.from_residual-in_err-value.ensures.1 in
    let s1 : Stack = Value ∷ ending true ∷ s in
    rw (p.1, p.2) (failed_from _ _ _ (c.in_ok-begin_declaration.ensures.read _
    ∙ c.in_ok-name.ensures.read (m sign.Equal ∷ s1)
    ∙ c.in_ok-expect.ensures.read (context_of c.local_name.new.scope 0 0) s1) (c.in_err-value.ensures.read true s))

pub returns-clause-read : goal.returns-clause-read
returns-clause-read c = λ s.
    let s1 : Stack = Value ∷ ending true ∷ s in
    c.in_ok-begin_declaration.ensures.read _ ∙ c.in_ok-name.ensures.read (m sign.Equal ∷ s1)
    ∙ c.in_ok-expect.ensures.read (context_of c.local_name.new.scope 0 0) s1 ∙ c.in_ok-value.ensures.read true s
    ∙ go_declared c.local_name.new.scope c.new_scalar.new.scope c.in_ok-name.name.now c.in_ok-id.id
    c.box_for-boxed.result s c.source.new.tokens c.take.new.self c.in_ok-value.ensures.stands c.take.ensures
    c.box_for-boxed.ensures c.in_ok-id.ensures.context
    (ap (λ (sc : Scope). fresh_name sc.fresh) c.in_ok-name.ensures.scope)

pub returns-clause-scope : goal.returns-clause-scope
returns-clause-scope c = new_scope c.args.scope.now c.begin_declaration.new.scope c.local_name.new.scope
    c.new_scalar.new.scope c.in_ok-name.name c.in_ok-id.id c.box_for-boxed.result c.in_ok-begin_declaration.ensures.scope
    c.in_ok-name.ensures.scope (record {
      context = c.in_ok-id.ensures.context;
      names = c.in_ok-id.ensures.names;
      id_is = c.in_ok-id.ensures.id;
      next = c.in_ok-id.ensures.next;
      box = c.box_for-boxed.ensures;
    })

pub returns-clause-tree : goal.returns-clause-tree
returns-clause-tree c = subst (λ (x : Stmt). IsStmtRead (env_of c.args.scope.now) (env_of c.new_scalar.new.scope)
    (items c.args.tokens.now) (items c.take.new.self) x) (sym c.declaration.ensures)
    (read_declared c.args.scope.now c.begin_declaration.new.scope c.local_name.new.scope
    c.new_scalar.new.scope c.in_ok-name.name c.in_ok-id.id c.box_for-boxed.result c.place-place.result
    c.args.tokens.now c.begin_declaration.new.tokens c.local_name.new.tokens c.expect.new.self c.source.new.tokens
    c.take.new.self c.in_ok-value.value
    c.in_ok-begin_declaration.ensures.scope c.in_ok-name.ensures.scope
    (record {
      context = c.in_ok-id.ensures.context;
      names = c.in_ok-id.ensures.names;
      id_is = c.in_ok-id.ensures.id;
      next = c.in_ok-id.ensures.next;
      box = c.box_for-boxed.ensures;
    })
    c.place-place.ensures c.requires c.in_ok-begin_declaration.ensures.taken c.in_ok-name.ensures.first
    c.in_ok-name.ensures.taken c.in_ok-expect.ensures.first c.in_ok-expect.ensures.taken c.in_ok-value.ensures.tree
    c.in_ok-value.ensures.stands c.take.ensures)
