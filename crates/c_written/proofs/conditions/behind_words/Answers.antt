use Rattle.std.proofs.Common.{arith}
use Rattle.c_written.proofs.Deciding.{rest_kinds}
use Rattle.c_written.proofs.conditions.behind_words.Goals as goal

pub returns-then-count-tokens : goal.returns-then-count-tokens
returns-then-count-tokens c = rest_kinds c.args.count _ c.args.tokens.now (omega arith)
