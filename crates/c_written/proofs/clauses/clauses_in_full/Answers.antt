use Rattle.std.proofs.Common.{◌∙◌, ap, sym, length, arith}
use Rattle.std.proofs.lemmas.List.{length-map}
use Rattle.directives.specs.Seen.{is_whole, seen_placed}
use Rattle.directives.specs.Ahead.{seen_line}
use Rattle.c_written.specs.Clauses.{seen_scope}
use Rattle.c_terminals.specs.Names.{seen_names}
use Rattle.c_written.specs.Values.{seen_values}
use Rattle.c_written.proofs.Outcomes.{same_if_ok}
use Rattle.c_written.proofs.WholeClauses.{whole_clauses, short_line, front_two}
use Rattle.c_written.proofs.clauses.clauses_in_full.Goals as goal

pub of-requires : goal.of-requires
of-requires c =
    ap is_whole (c.in_ok-tokens-in-len2-up.ensures
    ∙ front_two (seen_names c.args.names.now) (seen_values c.args.arrays.now) c.tokens.result.now _ _ (seen_scope c.scope_of-scope.result)
    c.in-len2-up.len_at_least c.scope_of-scope.ensures)
    ∙ whole_clauses _ _ _ c.tokens.ensures.whole

pub returns-in_default : goal.returns-in_default
returns-in_default c =
    same_if_ok c.copy.result seen_line (seen_line c.args.line.now) _ c.copy.ensures
    (sym (short_line (seen_names c.args.names.now) (seen_values c.args.arrays.now) (seen_line c.args.line.now)
    (omega (arith, ap (λ ps. length ps) c.tokens.ensures.tokens, length-map c.tokens.result.now seen_placed, c.in_default.len_below))))
