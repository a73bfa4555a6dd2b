use Rattle.std.proofs.Common.{◌∙◌, sym}
use Rattle.directives.specs.Seen.{seen_lexeme}
use Rattle.c_written.proofs.Fitting.{follows_on}
use Rattle.c_written.proofs.nesting.follows.Goals as goal

pub returns-then-may_follow : goal.returns-then-may_follow
returns-then-may_follow c =
    follows_on (seen_lexeme c.args.last) c.args.tokens.now _ c.name_len-len.result c.are_inner.result
    c.in-len1-up.len_at_least (sym c.may_follow.ensures ∙ c.if-may_follow.true)
    c.name_len-len.ensures.value c.are_inner.ensures
