use Rattle.std.proofs.Common.{get_or, sym}
use Rattle.directives.specs.Seen.{seen_lexeme}
use Rattle.c_written.specs.Clauses.{seen_scope}
use Rattle.c_written.proofs.ClauseLengths.{clause_short, list_fits}
use Rattle.c_written.proofs.clauses.Scope.clause_len.Goals as goal

pub returns-then-is_sign-clause-within : goal.returns-then-is_sign-clause-within
returns-then-is_sign-clause-within c =
    list_fits (seen_scope c.args.self.now) (seen_lexeme (get_or c.args.rest.now 0 _).lexeme) c.args.rest.now c.list_len.result
    c.in-len2-up.len_at_least c.list_len.ensures

pub returns-in_default-clause-len : goal.returns-in_default-clause-len
returns-in_default-clause-len c = sym (clause_short (seen_scope c.args.self.now) c.args.rest.now c.in_default.len_below)
