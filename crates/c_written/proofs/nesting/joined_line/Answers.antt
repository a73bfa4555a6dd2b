use Rattle.std.proofs.Common.{◌∙◌, List, drop, ap}
use Rattle.c_grammar.specs.Lexeme.{Placed}
use Rattle.c_grammar.specs.Presence.{is_target}
use Rattle.directives.specs.Ahead.{seen_line}
use Rattle.directives.specs.Seen.{is_whole}
use Rattle.directives.specs.Spells.{kinds_of}
use Rattle.c_written.specs.Forms.{all_placed}
use Rattle.c_written.specs.Spots.{all_kinds}
use Rattle.c_written.proofs.Joining.{directive_of, line_long, target_of, target_words, tokens_whole}
use Rattle.c_written.proofs.OwnIfs.{conditioned_target, conditioned_whole, line_is}
use Rattle.c_written.proofs.nesting.joined_line.Goals as goal

pub conditioned-requires : goal.conditioned-requires
conditioned-requires c =
    target_words c.tokens.result.now (seen_line c.args.target.now) c.tokens.ensures.tokens
    (target_of (kinds_of (seen_line c.args.target.now)) (kinds_of (seen_line c.args.inner.now)) c.requires)

pub joined_tokens-requires-clause-tokens : goal.joined_tokens-requires-clause-tokens
joined_tokens-requires-clause-tokens c =
    target_words c.deref.result.now _ (ap all_placed c.deref.ensures.value ∙ c.in_ok-own.ensures)
    (conditioned_target (drop 3 (all_kinds c.tokens.result.now)) (all_placed c.tokens.result.now)
    (ap (λ (ps : List Placed). is_target (kinds_of ps)) c.tokens.ensures.tokens
    ∙ target_of (kinds_of (seen_line c.args.target.now)) (kinds_of (seen_line c.args.inner.now)) c.requires))

pub joined_tokens-requires-clause-inner : goal.joined_tokens-requires-clause-inner
joined_tokens-requires-clause-inner c =
    line_long c.tokens-2.result.now (seen_line c.args.inner.now) c.tokens-2.ensures.tokens
    (directive_of (kinds_of (seen_line c.args.target.now)) (kinds_of (seen_line c.args.inner.now)) c.requires)

pub of-requires : goal.of-requires
of-requires c =
    let own = all_placed c.deref.result.now in
    let is = ap all_placed c.deref.ensures.value ∙ c.in_ok-own.ensures in
    let target = ap (λ (ps : List Placed). is_target (kinds_of ps)) c.tokens.ensures.tokens
    ∙ target_of (kinds_of (seen_line c.args.target.now)) (kinds_of (seen_line c.args.inner.now)) c.requires in
    ap is_whole c.in_ok-tokens.ensures
    ∙ tokens_whole own (all_placed c.tokens-2.result.now)
    (ap is_whole is
    ∙ conditioned_whole (drop 3 (all_kinds c.tokens.result.now)) (all_placed c.tokens.result.now) c.tokens.ensures.whole target)
    c.tokens-2.ensures.whole
    (ap (λ (ps : List Placed). is_target (kinds_of ps)) is
    ∙ conditioned_target (drop 3 (all_kinds c.tokens.result.now)) (all_placed c.tokens.result.now) target)

pub returns : goal.returns
returns c =
    c.of.ensures ∙ c.in_ok-tokens.ensures
    ∙ line_is c.deref.result.now c.tokens-2.result.now c.tokens.result.now (seen_line c.args.target.now)
    (seen_line c.args.inner.now) c.tokens.ensures.tokens c.tokens-2.ensures.tokens
    (ap all_placed c.deref.ensures.value ∙ c.in_ok-own.ensures)
