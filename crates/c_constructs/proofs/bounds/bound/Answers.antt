use Rattle.std.proofs.Common.{arith, ◌+◌, ◌++◌, drop, refl}
use Rattle.std.proofs.lemmas.Result.{err_from_is_err_and}
use Rattle.c_expressions.specs.Scopes.{names_of}
use Rattle.directives.specs.Names.{each_names, signed_names}
use Rattle.directives.specs.Trees.{term_of}
use Rattle.c_constructs.proofs.NameSteps.{next_failed, next_read}
use Rattle.c_constructs.proofs.Terms.{next_terms}
use Rattle.std.proofs.lemmas.Grind.{common_steps}
use Rattle.c_constructs.proofs.bounds.bound.Goals as goal

pub terms-preserved : goal.terms-preserved
terms-preserved c = record {
  read = λ us. next_read signed_names c.args.scope.now c.args.bound.now.more.items c.deref-more-items.result.now
      c.terms.more-index _ _ us _ c.deref-more-items.ensures.value c.terms-test.true refl (c.terms.invariant.read us)
      (c.in_ok-next.ensures.told
      (each_names signed_names (drop (c.terms.more-index + 1) c.args.bound.now.more.items) ++ us));
  means = next_terms (names_of c.args.scope.now) (term_of c.args.bound.now.first) c.args.bound.now.more.items
      c.deref-more-items.result.now c.terms.more-index _ c.put_term.new.read c.deref-more-items.ensures.value
      c.terms-test.true
      (c.in_ok-put_term.ensures (names_of c.args.scope.now) _ _ c.terms.invariant.means c.in_ok-next.ensures.means);
}

pub returns-in_err-next-clause-told : goal.returns-in_err-next-clause-told
returns-in_err-next-clause-told c = λ us.
    let p = err_from_is_err_and c.from_residual-in_err-next.result c.from_residual-in_err-next.ensures.1 in
    rw (p.1, p.2) (next_failed signed_names c.args.scope.now c.args.bound.now.more.items
    c.deref-more-items.result.now c.terms.more-index _ _ us _ _ c.deref-more-items.ensures.value c.terms-test.true refl
    (c.terms.invariant.read us) (c.in_err-next.ensures.told
    (each_names signed_names (drop (c.terms.more-index + 1) c.args.bound.now.more.items) ++ us)))

pub returns-in_err-first-clause-told : goal.returns-in_err-first-clause-told
returns-in_err-first-clause-told c = grind (arith, common_steps)

pub returns-clause-told : goal.returns-clause-told
returns-clause-told c = grind (arith, common_steps)

pub returns-clause-means : goal.returns-clause-means
returns-clause-means c = grind (arith, common_steps)
