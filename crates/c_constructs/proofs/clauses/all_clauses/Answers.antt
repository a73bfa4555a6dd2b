use Rattle.std.proofs.Common.{arith, ◌+◌, ◌++◌, drop, refl}
use Rattle.std.proofs.lemmas.Result.{err_from_is_err_and}
use Rattle.c_expressions.specs.Scopes.{names_of}
use Rattle.directives.specs.Names.{clause_names, each_names}
use Rattle.c_constructs.proofs.ClauseSteps.{typed_at, read_all, read_next}
use Rattle.c_constructs.proofs.NameSteps.{all_read, next_failed, next_read}
use Rattle.c_constructs.proofs.clauses.all_clauses.Goals as goal

pub clauses-preserved : goal.clauses-preserved
clauses-preserved g c = record {
  read = λ us. next_read clause_names c.args.scope.now c.args.clauses.now c.args.clauses.now c.clauses.one-index _
      c.one-item.result us _ refl c.clauses-test.true c.one-item.is (c.clauses.invariant.read us)
      (c.in_ok-clause.ensures.told (each_names clause_names (drop (c.clauses.one-index + 1) c.args.clauses.now) ++ us));
  means = read_next g.K.MapKind.seen (names_of c.args.scope.now) c.args.line c.args.clauses.now c.clauses.one-index
      c.one-item.result c.clauses.read c.clause.new.read c.clauses-test.true c.one-item.is c.clauses.invariant.means
      c.in_ok-clause.ensures.means;
}

pub returns-in_err-clause-clause-told : goal.returns-in_err-clause-clause-told
returns-in_err-clause-clause-told g c = λ us.
    let p = err_from_is_err_and c.from_residual.result c.from_residual.ensures.1 in
    rw (p.1, p.2) (next_failed clause_names c.args.scope.now c.args.clauses.now c.args.clauses.now
    c.clauses.one-index _ c.one-item.result us _ _ refl c.clauses-test.true c.one-item.is
    (c.clauses.invariant.read us) (c.in_err-clause.ensures.told
    (each_names clause_names (drop (c.clauses.one-index + 1) c.args.clauses.now) ++ us)))

pub returns-clause-told : goal.returns-clause-told
returns-clause-told g c = λ us. all_read clause_names c.args.scope.now c.args.clauses.now c.args.clauses.now
    c.clauses.one-index us _ refl c.clauses-test.false (c.clauses.invariant.read us)

pub returns-clause-means : goal.returns-clause-means
returns-clause-means g c =
    read_all g.K.MapKind.seen (names_of c.args.scope.now) c.args.line c.args.clauses.now c.clauses.one-index
    c.clauses.read c.clauses-test.false c.clauses.invariant.means

pub clause-requires : goal.clause-requires
clause-requires g c = grind (arith, typed_at)

pub returns-in_err-clause-clause-means : goal.returns-in_err-clause-clause-means
returns-in_err-clause-clause-means g c = grind (arith, typed_at)
