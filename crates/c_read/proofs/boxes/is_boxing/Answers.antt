use Rattle.std.proofs.Common.{◌∙◌, sym}
use Rattle.c_read.proofs.Boxing.{told_by_third, told_by_words}
use Rattle.c_read.proofs.boxes.is_boxing.Goals as goal

pub returns-then-is_directive : goal.returns-then-is_directive
returns-then-is_directive c =
    told_by_third c.same_lexeme.result c.tokens.result.now _ _ c.in-len3-up.len_at_least c.tokens.ensures.tokens
    (sym c.is_directive.ensures ∙ c.if-is_directive.true) c.same_lexeme.ensures

pub returns-else-is_directive : goal.returns-else-is_directive
returns-else-is_directive c =
    c.if-is_directive.false
    ∙ sym (told_by_words c.tokens.result.now _ c.in-len3-up.len_at_least c.tokens.ensures.tokens
    (sym c.is_directive.ensures ∙ c.if-is_directive.false))
