use Rattle.c_written.proofs.Deciding.{take_kinds}
use Rattle.c_written.proofs.conditions.front_words.Goals as goal

pub returns-then-count-tokens : goal.returns-then-count-tokens
returns-then-count-tokens c = take_kinds c.args.count c.args.tokens.now
