use Rattle.std.proofs.Common.{rules}
use Rattle.c_written.proofs.Unending.{tokens_step, tokens_all}
use Rattle.c_written.proofs.line_forms.as_tokens.Goals as goal

pub lexemes-preserved : goal.lexemes-preserved
lexemes-preserved c = search (rules, tokens_step)

pub returns : goal.returns
returns c = search (rules, tokens_all)
