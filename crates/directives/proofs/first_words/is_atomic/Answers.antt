use Rattle.std.proofs.Common.{sym}
use Rattle.directives.proofs.Words.{atomic_few, told_by_third}
use Rattle.directives.proofs.first_words.is_atomic.Goals as goal

pub returns-in_default : goal.returns-in_default
returns-in_default c = sym (atomic_few c.tokens.result.now _ c.in_default.len_below c.tokens.ensures.tokens)

pub returns-in-len3-up : goal.returns-in-len3-up
returns-in-len3-up c =
    told_by_third c.same_lexeme.result _ c.tokens.result.now _ _ c.same_lexeme.ensures c.as_slice.ensures
    c.in-len3-up.len_at_least c.tokens.ensures.tokens
