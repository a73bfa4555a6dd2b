use Rattle.std.proofs.Common.{◌∙◌, sym}
use Rattle.c_written.proofs.LinePast.{work_behind}
use Rattle.c_written.proofs.line_forms.needs_work.Goals as goal

pub tokens-preserved : goal.tokens-preserved
tokens-preserved c =
    sym (work_behind c.tokens.left c.tokens.rest.now _ c.in-len1-up.len_at_least c.if-left-eq0.false
    (sym c.if-is_more.ensures)) ∙ c.tokens.invariant
