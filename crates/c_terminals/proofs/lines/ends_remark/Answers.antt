use Rattle.std.proofs.Common.{◌∙◌, sym}
use Rattle.c_terminals.proofs.Remarks.{remark_short}
use Rattle.c_terminals.proofs.lines.ends_remark.Goals as goal

pub returns : goal.returns
returns c = sym (remark_short _ c.in_default.len_below) ∙ c.lexemes.invariant
