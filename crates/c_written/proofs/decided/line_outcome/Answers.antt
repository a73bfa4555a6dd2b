use Rattle.std.proofs.Common.{◌≡◌, ◌∙◌, List, Some, length, sym, ap, arith}
use Rattle.std.proofs.lemmas.List.{length-map}
use Rattle.c_grammar.specs.Blocks.{Items, bare}
use Rattle.c_grammar.specs.Conditions.{line_outcome}
use Rattle.c_grammar.specs.Lexeme.{Lexeme, Placed}
use Rattle.directives.specs.Ahead.{seen_line}
use Rattle.directives.specs.Seen.{seen_placed}
use Rattle.directives.specs.Spells.{kinds_of}
use Rattle.c_terminals.specs.Seen.{seen_all}
use Rattle.c_written.proofs.Deciding.{other_outcome, short_outcome}
use Rattle.c_written.proofs.decided.line_outcome.Goals as goal

pub returns-in_default : goal.returns-in_default
returns-in_default c =
    ap (λ (ps : List Placed). Some ps) c.in_ok-copy.ensures
    ∙ short_outcome (seen_line c.args.line.now) _ _
    (omega (arith, ap (λ (ps : List Placed). length ps) c.tokens-tokens.ensures.tokens, length-map c.tokens-tokens.result.now seen_placed, c.in_default.len_below))

pub returns : goal.returns
returns c =
    let ts : List Lexeme = kinds_of (seen_line c.args.line.now) in
    let is : Items = bare (seen_all c.args.behind.now) in
    ap (λ (ps : List Placed). Some ps) (c.in_ok-copy-2.ensures ∙ sym c.tokens-tokens.ensures.tokens)
    ∙ other_outcome c.tokens-tokens.result.now ts is c.in-len2-up.len_at_least
    (sym c.begins_target.ensures ∙ c.if-begins_target.false)
    ∙ ap (λ (ps : List Placed). line_outcome ps ts is) c.tokens-tokens.ensures.tokens
