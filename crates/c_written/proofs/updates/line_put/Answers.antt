use Rattle.std.proofs.Common.{◌<◌, ◌^◌, ◌∙◌, List, ap, length, rules, sym}
use Rattle.c_grammar.specs.Lexeme.{Placed}
use Rattle.c_grammar.specs.Updates.{is_atomic, is_combined, is_compare}
use Rattle.directives.specs.Spells.{kinds_of}
use Rattle.c_terminals.specs.Ahead.{ahead}
use Rattle.c_terminals.specs.Seen.{seen_all}
use Rattle.c_written.proofs.CommutingLines.{atomic_put, combined_put, compare_put}
use Rattle.c_written.proofs.Summing.{few_tokens}
use Rattle.c_written.proofs.updates.line_put.Goals as goal

pub returns-then-is_combined : goal.returns-then-is_combined
returns-then-is_combined c =
    combined_put c.args.token c.in-Line.line (seen_all c.args.behind.now) _ c.in-Line.is c.requires
    (sym (c.is_combined.ensures ∙ ap (λ (ps : List Placed). is_combined (kinds_of ps)) c.tokens.ensures.tokens)
    ∙ c.if-is_combined.true)
    c.in_ok-reduced_line.ensures

pub has_update-updates-requires : goal.has_update-updates-requires
has_update-updates-requires c =
    let small : length c.args.behind.now < 2 ^ 63 = search rules in
    few_tokens c.args.behind.now _ small c.new.ensures

pub returns-then-is_atomic : goal.returns-then-is_atomic
returns-then-is_atomic c =
    atomic_put c.args.token c.in-Line.line (seen_all c.args.behind.now) (ahead c.new.result) c.has_update-updates.result _
    c.in-Line.is
    (sym (c.is_combined.ensures ∙ ap (λ (ps : List Placed). is_combined (kinds_of ps)) c.tokens.ensures.tokens)
    ∙ c.if-is_combined.false)
    (sym (c.is_atomic.ensures ∙ ap (λ (ps : List Placed). is_atomic (kinds_of ps)) c.tokens-2.ensures.tokens)
    ∙ c.if-is_atomic.true)
    c.new.ensures c.has_update-updates.ensures c.in_ok-atomic_line.ensures

pub returns-then-branch : goal.returns-then-branch
returns-then-branch c =
    compare_put c.args.token c.in-Line.line (seen_all c.args.behind.now) c.in_ok-has_extreme.field-0 _ c.in-Line.is
    (sym (c.is_combined.ensures ∙ ap (λ (ps : List Placed). is_combined (kinds_of ps)) c.tokens.ensures.tokens)
    ∙ c.if-is_combined.false)
    (sym (c.is_atomic.ensures ∙ ap (λ (ps : List Placed). is_atomic (kinds_of ps)) c.tokens-2.ensures.tokens)
    ∙ c.if-is_atomic.false)
    (sym (c.is_compare.ensures ∙ ap (λ (ps : List Placed). is_compare (kinds_of ps)) c.tokens-3.ensures.tokens)
    ∙ c.if-is_compare.true)
    c.in_ok-has_extreme.ensures c.if-branch.true c.in_ok-compare_line.ensures
