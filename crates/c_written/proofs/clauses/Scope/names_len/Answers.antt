use Rattle.std.proofs.Common.{◌∙◌, sym, arith}
use Rattle.c_written.specs.Clauses.{seen_scope}
use Rattle.c_written.proofs.ClauseLengths.{names_next, two_less}
use Rattle.c_written.proofs.clauses.Scope.names_len.Goals as goal

pub names-preserved : goal.names-preserved
names-preserved c =
    let less = two_less c.names.rest.now c.in-len2-up.len_at_least in
    let few = c.names.invariant.few in
    record {
      same =
          sym (names_next (seen_scope c.args.self.now) c.args.scalar c.names.count c.names.rest.now _ _ c.in-len2-up.len_at_least
          (sym c.may_stand.ensures ∙ c.if-not-may_stand.false) (sym c.if-is_sign.ensures)
          (sym c.is_sign-in-len2-up.ensures ∙ c.if-not-is_sign.false))
          ∙ c.names.invariant.same;
      few = omega (arith, few, less, c.in-len2-up.len_at_least);
    }
